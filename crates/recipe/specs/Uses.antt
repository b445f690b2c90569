-- Document 02, ask 8: "lists with saves and removes in place of commits, puts and finishes": what they leave on card and disk, what they answer, and
-- what they say stands for each recipe.
use Rattle.std.specs.Prelude.{ℕ, List, [], ◌∷◌, cond, eqb}
use Rattle.protocol.specs.declared.Answer.{Answer}
use Rattle.protocol.specs.declared.Answer.TheVariants.{Done, Cut, Refused}
use Rattle.protocol.specs.declared.Map.{Map}
use Rattle.protocol.specs.Store.{card, disk, Work, answer_of, after_on}
use Rattle.protocol.specs.History.{Call, Media, work_of}
use Rattle.recipe.specs.Record.{Recipe, record_bytes}
use Rattle.recipe.specs.Shelf.{Standing, nothing, stands}
use Rattle.recipe.specs.Calls.{save_work, remove_work}

-- a save or a remove of a recipe, or one of the cache's calls that stand beside them, each with all its arguments but the map and the allowance
pub data Use : Type 0 where
  save : ℕ → Recipe → List ℕ → List ℕ → Use
  remove : ℕ → List ℕ → List ℕ → Use
  load : List ℕ → ℕ → List ℕ → Use
  evict : ℕ → List ℕ → Use
  recover : Use
  upgrade : Use
  open_save : Use

-- a use, by a library of a version; the map that it gets; and where power fails
pub record Asked : Type 0 where
  pub version : ℕ
  pub call : Use
  pub map : Map
  pub allowance : ℕ

-- its refusal and runs of stores, from the media that it meets
unfoldable pub work_for : ℕ → Use → Map → Media → Work
work_for v (save r x t ch) s m = save_work v m.on_card m.on_disk s t r x ch
work_for v (remove r t ch) s m = remove_work v m.on_card m.on_disk s t r ch
work_for v (load t b ch) s m = work_of v (Call.load t b ch) s m
work_for v (evict b ch) s m = work_of v (Call.evict b ch) s m
work_for v recover s m = work_of v Call.recover s m
work_for v upgrade s m = work_of v Call.upgrade s m
work_for v open_save s m = work_of v Call.open_save s m

-- what it answers
unfoldable pub answer_for : Asked → Media → Answer
answer_for q m = answer_of q.allowance (work_for q.version q.call q.map m)

-- the media as it leaves them
unfoldable pub media_after : Asked → Media → Media
media_after q m =
    record {
      on_card = after_on card q.allowance (work_for q.version q.call q.map m) m.on_card;
      on_disk = after_on disk q.allowance (work_for q.version q.call q.map m) m.on_disk;
    }

-- "Each gets the card and disk as the call before left them"
unfoldable pub media_left : List Asked → Media → Media
media_left [] m = m
media_left (q ∷ qs) m = media_left qs (media_after q m)

-- what they answer, in order
unfoldable pub answers_to : List Asked → Media → List Answer
answers_to [] m = []
answers_to (q ∷ qs) m = answer_for q m ∷ answers_to qs (media_after q m)

-- what is said to stand for each recipe
abbrev pub Shelf : Type 0
Shelf = ℕ → Standing

-- x stands for recipe r, and for the others what stood
unfoldable pub placed : ℕ → Standing → Shelf → Shelf
placed r x shelf b = cond (eqb b r) x (shelf b)

-- a save that answers done puts its record, a remove nothing; all else leaves what stands
unfoldable pub shelve : Use → Answer → Shelf → Shelf
shelve (save r x t ch) (Done n) shelf = placed r (stands (record_bytes x)) shelf
shelve (save r x t ch) Cut shelf = shelf
shelve (save r x t ch) (Refused k) shelf = shelf
shelve (remove r t ch) (Done n) shelf = placed r nothing shelf
shelve (remove r t ch) Cut shelf = shelf
shelve (remove r t ch) (Refused k) shelf = shelf
shelve (load t b ch) a shelf = shelf
shelve (evict b ch) a shelf = shelf
shelve recover a shelf = shelf
shelve upgrade a shelf = shelf
shelve open_save a shelf = shelf

-- what stands after them, from their arguments and answers alone
unfoldable pub shelve_all : List Asked → List Answer → Shelf → Shelf
shelve_all [] ans shelf = shelf
shelve_all (q ∷ qs) [] shelf = shelf
shelve_all (q ∷ qs) (a ∷ ans) shelf = shelve_all qs ans (shelve q.call a shelf)
