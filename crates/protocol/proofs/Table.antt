-- The hand_checked values of document 01 hold of the definitions: each is computed, for any card where the fact leaves the card open.
-- Assumes nothing.
use mathlib.Core.Path.{refl}
use Rattle.protocol.specs.Table.{HandChecked}
use Rattle.protocol.proofs.Computing.{computing}

pub hand_checked : HandChecked
unfolding computing
hand_checked =
    record {
      fact1 = λ d. refl;
      fact2 = λ d. refl;
      fact3 = refl;
      fact4 = refl;
      fact5 = λ v. refl;
      fact6 = refl;
      fact7 = refl;
      clean_back = refl;
      clean_again = refl;
      dirty_switched = refl;
      dirty_back = refl;
      dirty_again = refl;
      fact8 = λ b p q. (refl, refl);
      fact9 = λ s n d b b' c bs. (refl, refl);
      fact10 = λ b. (refl, refl);
      fact11 = refl;
      fact12 = refl;
      evict_modified = λ s n d b c e. rw e;
      evict_clean = λ s n d b c e. rw e;
      load_stores = λ s n d b c dk. refl;
    }
