-- The map as words that the station lends: written on done, and refused with 15 where they are not two; and what the storing calls of the
-- interface do with them. Assumes nothing.
use Prim.Native.Nat.{ℕ, ◌-◌}
use mathlib.Core.List.{List, [], ◌∷◌}
use mathlib.Core.Path.{◌≡◌, refl, sym, ap, ◌∙◌}
use native.Mathlib.Omega.{arith}
use lib.ListN.{length, get_or, set}
use borrow.Author.Tests.{eq-eqb, ne_eqb}
use Rattle.protocol.specs.declared.Map.{Map}
use Rattle.protocol.specs.declared.Mapped.TheVariants.{Is}
use Rattle.protocol.specs.declared.Stored.{Stored}
use Rattle.protocol.specs.Store.{Medium, card, disk, Work, answer_of, after_on}
use Rattle.protocol.specs.Map.{word, map_by, is_marked, map_of, same_map, map_refusal, make_refusal, made_map, map_after}
use Rattle.protocol.specs.Check.{refuse}
use Rattle.protocol.specs.Layout.{geometry_of}
use Rattle.freemap.proofs.Words.{word_below}
use Rattle.plain.specs.declared.TincaAnswer.{TincaAnswer}
use Rattle.plain.specs.Plain.{plain_answer, other_map, lent_map, lent_record, words_of, words_after}

pub words_put : (m : Map) (ws : List ℕ) → length ws ≡ 2 → set (set ws 0 m.low) 1 m.high ≡ words_of m ws
unfolding words_of
words_put m [] e = absurd (omega arith)
words_put m (a ∷ []) e = absurd (omega arith)
words_put m (a ∷ b ∷ []) e = refl
words_put m (a ∷ b ∷ c ∷ ws) e = absurd (omega arith)

pub words_left : (m : Map) (ws : List ℕ) → (length ws ≡ 2 → ⊥) → ws ≡ words_of m ws
unfolding words_of
words_left m ws h = rw (ne_eqb (length ws) 2 h)

module _ (c ws : List ℕ) where
  pub lent_two : length ws ≡ 2 → record { low = get_or ws 0 0; high = get_or ws 1 0 } ≡ lent_map c ws
  unfolding lent_map
  lent_two e = rw (eq-eqb (length ws) 2 e)

  pub lent_other : (length ws ≡ 2 → ⊥) → other_map (made_map c) ≡ lent_map c ws
  unfolding lent_map
  lent_other h = rw (ne_eqb (length ws) 2 h)

  -- a card that gives a map refuses one that is not of two words
  pub other_refused : (length ws ≡ 2 → ⊥) → make_refusal 2 c ≡ 0 → map_refusal c (lent_map c ws) ≡ 15
  unfolding made_map map_refusal same_map refuse map_of map_by
  other_refused h z =
      let p = is_marked (geometry_of c) c in
      let b = word_below p 64 in
      let made : made_map c ≡ Is (map_of c) = rw (eq-eqb (make_refusal 2 c) 0 z) in
      ap (map_refusal c) (sym (lent_other h) ∙ ap other_map made) ∙ rw (ne_eqb (0xFFFFFFFFFFFFFFFF - word p 64) (word p 64) (λ e. omega arith))

-- ---- the record

module _ (ws : List ℕ) where
  pub record_two : length ws ≡ 2 → record { tail = get_or ws 0 0; count = get_or ws 1 0 } ≡ lent_record ws
  unfolding lent_record
  record_two e = rw (eq-eqb (length ws) 2 e)

  pub record_other : (length ws ≡ 2 → ⊥) → record { tail = 0xFFFFFFFFFFFFFFFF; count = 0xFFFFFFFFFFFFFFFF } ≡ lent_record ws
  unfolding lent_record
  record_other h = rw (ne_eqb (length ws) 2 h)

-- ---- the storing calls

-- what a storing call of the interface answers and leaves, from what the call below it hands back: W is its work, given a map
module _ (W : Map → Work) (a : ℕ) (c ws ws' : List ℕ) (m : Map) (s : Stored) (r : TincaAnswer) (e : m ≡ lent_map c ws)
    (answers : s.answer ≡ answer_of a (W m)) (hands : s.map ≡ map_after a (W m) c m)
    (o : (r ≡ plain_answer s.answer) × (ws' ≡ words_after s.answer s.map ws)) where
  answered : s.answer ≡ answer_of a (W (lent_map c ws))
  answered = answers ∙ ap (λ (y : Map). answer_of a (W y)) e

  lent_answer : r ≡ plain_answer (answer_of a (W (lent_map c ws)))
  lent_answer = o.0 ∙ ap plain_answer answered

  lent-words : ws' ≡ words_after (answer_of a (W (lent_map c ws))) (map_after a (W (lent_map c ws)) c (lent_map c ws)) ws
  lent-words =
      let handed = hands ∙ (λ t. map_after a (W (e t)) c (e t)) in
      o.1 ∙ (λ t. words_after (answered t) (handed t) ws)

  lent-after : (n : Medium) (xs ys : List ℕ) → ys ≡ after_on n a (W m) xs → ys ≡ after_on n a (W (lent_map c ws)) xs
  lent-after n xs ys q = q ∙ ap (λ (y : Map). after_on n a (W y) xs) e

  -- of a call that changes the card alone
  pub lent_call : (c' : List ℕ) → c' ≡ after_on card a (W m) c
      → (r ≡ plain_answer (answer_of a (W (lent_map c ws))))
      × ((c' ≡ after_on card a (W (lent_map c ws)) c)
      × (ws' ≡ words_after (answer_of a (W (lent_map c ws))) (map_after a (W (lent_map c ws)) c (lent_map c ws)) ws))
  lent_call c' q = (lent_answer, (lent-after card c c' q, lent-words))

  -- of one that changes the disk too
  pub lent_both : (c' d d' : List ℕ) → c' ≡ after_on card a (W m) c → d' ≡ after_on disk a (W m) d
      → (r ≡ plain_answer (answer_of a (W (lent_map c ws))))
      × ((c' ≡ after_on card a (W (lent_map c ws)) c)
      × ((d' ≡ after_on disk a (W (lent_map c ws)) d)
      × (ws' ≡ words_after (answer_of a (W (lent_map c ws))) (map_after a (W (lent_map c ws)) c (lent_map c ws)) ws)))
  lent_both c' d d' q t = (lent_answer, (lent-after card c c' q, (lent-after disk d d' t, lent-words)))
