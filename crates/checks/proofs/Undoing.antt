-- The pass over the marked entries: the settled blocks of those passed are marked and counted, and R is looked for. Assumes nothing.
use Rattle.std.proofs.Common.{◌≡◌, ℕ, zero, suc, ◌+◌, ◌<◌, ◌≤◌, Bool, true, false, not, ◌&&◌, ◌||◌, eqb, List, get_or, sym, refl, ap, ◌∙◌, subst, add-one, arith}
use Rattle.protocol.specs.declared.Entry.{Entry}
use Rattle.protocol.specs.declared.Geometry.{Geometry}
use Rattle.protocol.specs.declared.Map.{Map}
use Rattle.protocol.specs.Below.{all_below, count_below}
use Rattle.protocol.specs.Entry.{entry_at, in_use, has_log_role}
use Rattle.protocol.specs.Map.{free_count}
use Rattle.protocol.specs.Ring.{window_of}
use Rattle.protocol.specs.Pending.{role_in_window}
use Rattle.freemap.specs.Bits.{with_bit}
use Rattle.freemap.proofs.Maps.{empty_by}
use Rattle.checks.specs.Keys.{settled_key, entry_key}
use Rattle.checks.specs.Marks.{Marked}
use Rattle.checks.specs.Passed.{Settles}
use Rattle.checks.proofs.Settled.{marked_key, marked_role}
use Rattle.checks.proofs.Tally.{Tally, tally_start, tally_skip, tally_more, tally_end}

-- what the pass has shown after i entries
pub record Undoing (g : Geometry) (c : List ℕ) (i : ℕ) (roles : Bool) (count : ℕ) (m : Map) : Type 0 where
  pub few : count ≤ i
  pub roles_is : roles ≡ all_below (role_in_window g c) i
  pub tally : Tally (λ d. false) (settled_key g c) i m count

none : (n : ℕ) → count_below (λ d. false) n ≡ 0
unfolding count_below
none zero = refl
none (suc n) = none n

pub undoing_start : (g : Geometry) (c : List ℕ) → Undoing g c 0 true 0 (record { low = 0; high = 0 })
unfolding all_below
undoing_start g c = record { few = omega arith; roles_is = refl; tally = tally_start (λ d. false) _ _ _ empty_by (sym (none 128)) }

module _ (g : Geometry) (c xs : List ℕ) (i key count : ℕ) (roles u r : Bool) (e : Entry) (m : Map) (h : Undoing g c i roles count m)
    (marks : Marked g c xs (window_of g c)) (l : i < g.blocks) (entry : e ≡ entry_at g c i) (key-is : key ≡ entry_key e (not (eqb (get_or xs i 0) 0)))
    (used : u ≡ in_use e) (role : r ≡ has_log_role e)
  where
    abbrev marked : Bool
    marked = not (eqb (get_or xs i 0) 0)

    key_of : key ≡ settled_key g c i
    key_of = key-is ∙ ap (λ (x : Entry). entry_key x marked) entry ∙ marked_key g c i marked (marks.marks i l)

    roles_more : roles && (not (u && r) || marked) ≡ all_below (role_in_window g c) (i + 1)
    unfolding all_below
    roles_more =
        (λ t. h.roles_is t && (not (used t && role t) || marked))
        ∙ ap (λ (x : Entry). all_below (role_in_window g c) i && (not (in_use x && has_log_role x) || marked)) entry
        ∙ ap (λ (b : Bool). all_below (role_in_window g c) i && b) (marked_role g c i marked (marks.marks i l))
        ∙ ap (all_below (role_in_window g c)) (sym (add-one i))

    pub undoing_skip : 128 ≤ key → Undoing g c (i + 1) (roles && (not (u && r) || marked)) count m
    undoing_skip b = record { few = omega (arith, h.few); roles_is = roles_more; tally = tally_skip _ _ _ _ _ _ h.tally key_of b }

    pub undoing_more : (m' : Map) → key < 128 → m' ≡ with_bit m key → Undoing g c (i + 1) (roles && (not (u && r) || marked)) (count + 1) m'
    undoing_more m' b w = record {
      few = omega (arith, h.few);
      roles_is = roles_more;
      tally = tally_more _ _ _ _ _ _ h.tally key_of b refl m' w;
    }

pub undoing_end : (g : Geometry) (c : List ℕ) (i count free : ℕ) (roles : Bool) (m : Map) → Undoing g c i roles count m
    → i ≤ g.blocks → g.blocks ≤ i → free ≡ free_count m → Settles g c (record { apart = eqb (free + count) 128; roles = roles; map = m })
undoing_end g c i count free roles m h a b f =
    let s : i ≡ g.blocks = omega arith in
    record {
      apart_is = tally_end _ _ i g.blocks count free m h.tally (omega arith) (omega arith) f;
      roles_is = h.roles_is ∙ ap (all_below (role_in_window g c)) s;
      map_is = (subst (λ (x : ℕ). Tally (λ d. false) (settled_key g c) x m count) s h.tally).map_is;
    }
