-- Each slip loses a saved block: computed. Assumes nothing.
use mathlib.Core.Path.{refl}
use Rattle.protocol.proofs.Computing.{computing}
use Rattle.protocol.specs.Pending.{put_runs}
use Rattle.slips.specs.Slips.{Lost, stepped, saving, recovering, then, then_all, recovery_by, in_window_only, undone_modified, undone_fresh, undone_clean, undone_swapped, tail_first, left_after_two, emptied, switching_fresh, reusing, zeroing_first, evicting, unfenced_load, fenced_load, last_alone, loaded, saving_clean, evicted_after, putting, pending, not_current, putting_over}

pub lost : Lost
unfolding computing stepped saving recovering then then_all recovery_by in_window_only undone_modified undone_fresh undone_clean undone_swapped tail_first left_after_two emptied switching_fresh reusing zeroing_first evicting unfenced_load fenced_load last_alone loaded saving_clean evicted_after put_runs putting pending not_current putting_over
lost =
    record {
      window_only = refl;
      switch_fresh = refl;
      undo_fresh = refl;
      undo_clean = refl;
      undo_dirty = refl;
      reused = refl;
      zeroed_first = refl;
      emptied_all = refl;
      unfenced = refl;
      fenced = refl;
      given_again = refl;
      stored_tail_first = refl;
      undone_back = refl;
      right = refl;
    }
