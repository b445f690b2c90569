-- Put and finish, by the record that is lent. Assumes nothing.
use Prim.Native.Nat.{ℕ}
use mathlib.Core.List.{List}
use mathlib.Core.Path.{◌≡◌, ap, subst, ◌∙◌}
use Rattle.protocol.specs.declared.Answer.{Answer}
use Rattle.protocol.specs.declared.Map.{Map}
use Rattle.protocol.specs.declared.Pending.{Pending}
use Rattle.protocol.specs.declared.Stored.{Stored}
use Rattle.protocol.specs.Store.{Work, answer_of}
use Rattle.protocol.specs.Pending.{next_record}
use Rattle.pending.specs.declared.Put.{Put}
use Rattle.pending.specs.Putting.{PutBlock}
use Rattle.pending.specs.Finishing.{Finished}
use Rattle.plain.specs.Plain.{lent_map, record_after}

pub finish_held : (c : List ℕ) (m : Map) (p q : Pending) (a : ℕ) (t : Stored) (d : List ℕ) → p ≡ q → Finished c m p a t d → Finished c m q a t d
finish_held c m p q a t d e x = subst (λ (y : Pending). Finished c m y a t d) e x

pub put_held : (c : List ℕ) (m : Map) (p q : Pending) (b : ℕ) (bs ch : List ℕ) (a : ℕ) (t : Put) (d : List ℕ) → p ≡ q
    → PutBlock c m p b bs ch a t d → PutBlock c m q b bs ch a t d
put_held c m p q b bs ch a t d e x = subst (λ (y : Pending). PutBlock c m y b bs ch a t d) e x

-- the record in the station's words after a put
pub lent_held : (W : Map → Work) (a : ℕ) (c ws : List ℕ) (m : Map) (t : Put) (r : Pending) (hs hs' : List ℕ) → m ≡ lent_map c ws → t.answer ≡ answer_of a (W m)
    → t.save.held ≡ next_record t.answer r → hs' ≡ record_after t.answer t.save.held hs
    → hs' ≡ record_after (answer_of a (W (lent_map c ws))) (next_record (answer_of a (W (lent_map c ws))) r) hs
lent_held W a c ws m t r hs hs' e answers next q =
    let said = answers ∙ ap (λ (y : Map). answer_of a (W y)) e in
    q ∙ (λ i. record_after (said i) ((next ∙ ap (λ (y : Answer). next_record y r) said) i) hs)
