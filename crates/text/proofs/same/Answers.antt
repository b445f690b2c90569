-- `same` compares two texts.
use Prim.Native.Nat.{ℕ}
use mathlib.Core.List.{List}
use mathlib.Core.Path.{ap, ◌∙◌}
use borrow.Author.Rules.{rules}
use Rattle.std.proofs.lemmas.List.{take_all}
use Rattle.text.specs.Text.{same_text}
use Rattle.text.proofs.Words.{same_is}
use Rattle.text.proofs.same.Goals as goal

pub returns : goal.returns
returns c = c.eq.ensures ∙ same_is _ _ ∙ ap (λ (b : List ℕ). same_text c.args.a.now b) (search (take_all, rules))
