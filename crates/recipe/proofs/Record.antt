-- A record's bytes: their length, both round trips, and that the first 28 tell whether the layout is kept. Assumes nothing.
use Prim.Native.Nat.{ℕ, zero, suc, ◌+◌, ◌*◌, ◌^◌, ◌≤◌, ◌<◌}
use mathlib.Core.List.{List, [], ◌∷◌, ◌++◌}
use mathlib.Core.Bool.{true, ◌&&◌}
use mathlib.Core.Path.{◌≡◌, refl, sym, ap, ◌∙◌}
use native.Mathlib.Omega.{arith}
use lib.ListN.{length, get_or, length-append}
use lib.Dec.{eqb, leb}
use borrow.Author.Tests.{eqb-true, eq-eqb, leb-true, le-leb}
use Rattle.numbers.specs.Bytes.{be, bytes_be, part, number_at, Bytes}
use Rattle.numbers.proofs.Laws.{length_bytes, be_bytes, bytes_be_lem, length_part, get_d_part, part-part, part_append, part_one, part_all, bytes_part}
use Rattle.protocol.specs.Below.{each_below}
use Rattle.protocol.proofs.Below.{and_left, and_right, and_both, each_cong}
use Rattle.recipe.specs.Record.{Recipe, good_name, good_count, good_recipe, record_length, line_bytes, record_bytes, count_in, good_record, recipe_in, Fits, ReadBack, WrittenBack}
use Rattle.recipe.proofs.Lists.{part_seam, part_second, each_long, each_part, singles_long, singles_at, singles_whole}

-- ---- what a recipe that 19 accepts has

pub record Good (x : Recipe) : Type 0 where
  pub few : x.count ≤ 250
  pub ingredients : length x.ingredients ≡ x.count
  pub grams : length x.grams ≡ x.count
  pub name : good_name x.name ≡ true
  pub named : length x.name ≡ 24

name_long : (bs : List ℕ) → good_name bs ≡ true → length bs ≡ 24
unfolding good_name
name_long bs n = eqb-true _ _ (and_left _ _ n)

pub good : (x : Recipe) → good_recipe x ≡ true → Good x
unfolding good_recipe good_count
good x h =
    let a = and_right (leb x.count 250) _ h in
    let b = and_right (eqb (length x.ingredients) x.count) _ a in
    let n = and_right (eqb (length x.grams) x.count) (good_name x.name) b in
    record {
      few = leb-true _ _ (and_left _ _ h);
      ingredients = eqb-true _ _ (and_left _ _ a);
      grams = eqb-true _ _ (and_left _ _ b);
      name = n;
      named = name_long x.name n;
    }

-- ---- the record's parts

module _ (x : Recipe) (g : Good x) where
  abbrev lines : List ℕ
  lines = each_below (line_bytes x) x.count

  line_long : (i : ℕ) → length (line_bytes x i) ≡ 6
  unfolding line_bytes
  line_long i = length-append (bytes_be 2 (get_or x.ingredients i 0)) _ ∙ (λ t. length_bytes 2 (get_or x.ingredients i 0) t + length_bytes 4 (get_or x.grams i 0) t)

  lines_long : length lines ≡ x.count * 6
  lines_long = each_long (line_bytes x) 6 x.count (λ i l. line_long i)

  before : List ℕ
  before = bytes_be 2 (record_length x.count) ++ (1 ∷ x.count ∷ [])

  before-long : length before ≡ 4
  unfolding before bytes_be
  before-long = refl

  split : record_bytes x ≡ before ++ (x.name ++ lines)
  unfolding record_bytes before bytes_be
  split = refl

  pub record_long : length (record_bytes x) ≡ record_length x.count
  unfolding record_length
  record_long =
      ap length split ∙ length-append before _
      ∙ (λ t. before-long t + length-append x.name lines t)
      ∙ omega (arith, g.named, lines_long)

  named : part (record_bytes x) 4 24 ≡ x.name
  named =
      ap (λ (bs : List ℕ). part bs 4 24) split ∙ part_second before _ 0 24 4 before-long ∙ part_seam x.name lines 24 g.named

  pub record_count : count_in (record_bytes x) ≡ x.count
  unfolding count_in record_bytes bytes_be
  record_count = refl

  versioned : get_or (record_bytes x) 2 0 ≡ 1
  unfolding record_bytes bytes_be
  versioned = refl

  whole : record_bytes x ≡ bytes_be 2 (record_length x.count) ++ (1 ∷ x.count ∷ (x.name ++ lines))
  unfolding record_bytes
  whole = refl

  long-told : number_at (record_bytes x) 0 2 ≡ record_length x.count
  unfolding number_at record_length
  long-told =
      let small : record_length x.count < 256 ^ 2 = omega (arith, g.few) in
      ap be (ap (λ (bs : List ℕ). part bs 0 2) whole ∙ part_seam (bytes_be 2 (record_length x.count)) _ 2 (length_bytes 2 (record_length x.count)))
      ∙ be_bytes 2 (record_length x.count) small

  -- n bytes of line i, from `at` on
  in_line : (i at n : ℕ) → i < x.count → at + n ≤ 6 → part (record_bytes x) (28 + 6 * i + at) n ≡ part (line_bytes x i) at n
  in_line i at n l h =
      let place : 28 + 6 * i + at ≡ 4 + (24 + (i * 6 + at)) = omega arith in
      (λ t. part (split t) (place t) n)
      ∙ part_second before _ (24 + (i * 6 + at)) n 4 before-long
      ∙ part_second x.name lines (i * 6 + at) n 24 g.named
      ∙ sym (part-part lines (i * 6) 6 at n h)
      ∙ ap (λ (bs : List ℕ). part bs at n) (each_part (line_bytes x) 6 x.count i (λ j m. line_long j) l)

  module _ (f : Fits x) (i : ℕ) (l : i < x.count) where
    ingredient_back : number_at (record_bytes x) (28 + 6 * i) 2 ≡ get_or x.ingredients i 0
    unfolding number_at line_bytes
    ingredient_back =
        let z : 28 + 6 * i ≡ 28 + 6 * i + 0 = omega arith in
        let n = get_or x.ingredients i 0 in
        ap be
        (ap (λ (k : ℕ). part (record_bytes x) k 2) z ∙ in_line i 0 2 l (omega arith) ∙ part_seam (bytes_be 2 n) _ 2 (length_bytes 2 n))
        ∙ be_bytes 2 n (f.ingredients i (omega (arith, g.ingredients)))

    grams_back : number_at (record_bytes x) (30 + 6 * i) 4 ≡ get_or x.grams i 0
    unfolding number_at line_bytes
    grams_back =
        let z : 30 + 6 * i ≡ 28 + 6 * i + 2 = omega arith in
        let n = get_or x.grams i 0 in
        ap be
        (ap (λ (k : ℕ). part (record_bytes x) k 4) z ∙ in_line i 2 4 l (omega arith)
        ∙ part_second (bytes_be 2 (get_or x.ingredients i 0)) (bytes_be 4 n) 0 4 2 (length_bytes 2 (get_or x.ingredients i 0)) ∙ part_all (bytes_be 4 n) 4 (length_bytes 4 n))
        ∙ be_bytes 4 n (f.grams i (omega (arith, g.grams)))

  pub record_good : good_record (record_bytes x) ≡ true
  unfolding good_record good_count
  record_good =
      and_both (eq-eqb _ _ (long-told ∙ ap record_length (sym record_count)))
      (and_both (eq-eqb _ _ versioned)
      (and_both (ap (λ (c : ℕ). leb c 250) record_count ∙ le-leb _ _ g.few) (ap good_name named ∙ g.name)))

  pub fields_back : Fits x → recipe_in (record_bytes x) ≡ x
  unfolding recipe_in
  fields_back f =
      let ns : each_below (λ i. number_at (record_bytes x) (28 + 6 * i) 2 ∷ []) (count_in (record_bytes x)) ≡ x.ingredients =
      ap (each_below (λ i. number_at (record_bytes x) (28 + 6 * i) 2 ∷ [])) (record_count ∙ sym g.ingredients)
      ∙ each_cong _ _ (length x.ingredients) (λ i l. ap (λ (n : ℕ). n ∷ []) (ingredient_back f i (omega (arith, g.ingredients))))
      ∙ singles_whole x.ingredients in
      let gs : each_below (λ i. number_at (record_bytes x) (30 + 6 * i) 4 ∷ []) (count_in (record_bytes x)) ≡ x.grams =
      ap (each_below (λ i. number_at (record_bytes x) (30 + 6 * i) 4 ∷ [])) (record_count ∙ sym g.grams)
      ∙ each_cong _ _ (length x.grams) (λ i l. ap (λ (n : ℕ). n ∷ []) (grams_back f i (omega (arith, g.grams))))
      ∙ singles_whole x.grams in
      λ t. record { name = named t; count = record_count t; ingredients = ns t; grams = gs t }

pub read_back : ReadBack
read_back x h f = (record_good x (good x h), fields_back x (good x h) f)

-- ---- a record read and written

pub record Laid (bs : List ℕ) : Type 0 where
  pub long : number_at bs 0 2 ≡ record_length (count_in bs)
  pub version : get_or bs 2 0 ≡ 1
  pub few : count_in bs ≤ 250
  pub name : good_name (part bs 4 24) ≡ true

pub laid : (bs : List ℕ) → good_record bs ≡ true → Laid bs
unfolding good_record good_count
laid bs h =
    let a = and_right (eqb (number_at bs 0 2) (record_length (count_in bs))) _ h in
    let b = and_right (eqb (get_or bs 2 0) 1) _ a in
    record {
      long = eqb-true _ _ (and_left _ _ h);
      version = eqb-true _ _ (and_left _ _ a);
      few = leb-true _ _ (and_left _ _ b);
      name = and_right (leb (count_in bs) 250) _ b;
    }

module _ (bs : List ℕ) (bytes : Bytes bs) (long : length bs ≡ record_length (count_in bs)) (h : good_record bs ≡ true) where
  spelled : (at w : ℕ) → at + w ≤ length bs → bytes_be w (number_at bs at w) ≡ part bs at w
  unfolding number_at
  spelled at w l =
      let e = length_part bs at w l in
      ap (λ (k : ℕ). bytes_be k (be (part bs at w))) (sym e) ∙ bytes_be_lem (part bs at w) (bytes_part bs at w bytes)

  line_back : (i : ℕ) → i < count_in bs → line_bytes (recipe_in bs) i ≡ part bs (28 + i * 6) 6
  unfolding line_bytes recipe_in record_length
  line_back i l =
      let p : 28 + 6 * i ≡ 28 + i * 6 = omega arith in
      let q : 30 + 6 * i ≡ 28 + i * 6 + 2 = omega arith in
      (λ t. bytes_be 2 (singles_at (λ i. number_at bs (28 + 6 * i) 2) (count_in bs) i l t) ++ bytes_be 4 (singles_at (λ i. number_at bs (30 + 6 * i) 4) (count_in bs) i l t))
      ∙ (λ t. spelled (28 + 6 * i) 2 (omega (arith, long)) t ++ spelled (30 + 6 * i) 4 (omega (arith, long)) t)
      ∙ (λ t. part bs (p t) 2 ++ part bs (q t) 4)
      ∙ sym (part_append bs (28 + i * 6) 2 4)

  lines_back : (n : ℕ) → n ≤ count_in bs → each_below (line_bytes (recipe_in bs)) n ≡ part bs 28 (n * 6)
  unfolding each_below part
  lines_back zero l = refl
  lines_back (suc n) l =
      let more : n * 6 + 6 ≡ suc n * 6 = omega arith in
      (λ t. lines_back n (omega arith) t ++ line_back n (omega arith) t) ∙ sym (part_append bs 28 (n * 6) 6) ∙ ap (part bs 28) more

  counts : 3 < length bs → count_in bs ∷ [] ≡ part bs 3 1
  unfolding count_in
  counts l = sym (part_one bs 3 l)

  bytes_back : record_bytes (recipe_in bs) ≡ bs
  unfolding record_bytes recipe_in record_length
  bytes_back =
      let d = laid bs h in
      let two : 2 < length bs = omega (arith, long) in
      let three : 3 < length bs = omega (arith, long) in
      let all : 28 + count_in bs * 6 ≡ length bs = omega (arith, long) in
      let front = ap (bytes_be 2) (sym d.long) ∙ spelled 0 2 (omega (arith, long)) in
      let one : 1 ∷ [] ≡ part bs 2 1 = sym (part_one bs 2 two ∙ ap (λ (n : ℕ). n ∷ []) d.version) in
      let count : count_in bs ∷ [] ≡ part bs 3 1 = counts three in
      (λ t. front t ++ (one t ++ (count t ++ (part bs 4 24 ++ lines_back (count_in bs) (omega arith) t))))
      ∙ ap (λ (ys : List ℕ). part bs 0 2 ++ (part bs 2 1 ++ (part bs 3 1 ++ ys))) (sym (part_append bs 4 24 (count_in bs * 6)))
      ∙ ap (λ (ys : List ℕ). part bs 0 2 ++ (part bs 2 1 ++ ys)) (sym (part_append bs 3 1 (24 + count_in bs * 6)))
      ∙ ap (λ (ys : List ℕ). part bs 0 2 ++ ys) (sym (part_append bs 2 1 (1 + (24 + count_in bs * 6))))
      ∙ sym (part_append bs 0 2 (1 + (1 + (24 + count_in bs * 6))))
      ∙ part_all bs _ (omega (arith, all))

  recipe_good : good_recipe (recipe_in bs) ≡ true
  unfolding good_recipe good_count recipe_in
  recipe_good =
      let d = laid bs h in
      and_both (le-leb _ _ d.few)
      (and_both (eq-eqb _ _ (singles_long (λ i. number_at bs (28 + 6 * i) 2) (count_in bs)))
      (and_both (eq-eqb _ _ (singles_long (λ i. number_at bs (30 + 6 * i) 4) (count_in bs))) d.name))

pub written_back : WrittenBack
written_back bs b l h = (bytes_back bs b l h, recipe_good bs b l h)

-- ---- the first 28 bytes tell

pub front_count : (bs cs : List ℕ) → part bs 0 28 ≡ part cs 0 28 → count_in bs ≡ count_in cs
unfolding count_in
front_count bs cs e = sym (get_d_part bs 0 28 3 (omega arith)) ∙ ap (λ (ys : List ℕ). get_or ys 3 0) e ∙ get_d_part cs 0 28 3 (omega arith)

pub front_good : (bs cs : List ℕ) → part bs 0 28 ≡ part cs 0 28 → good_record bs ≡ good_record cs
unfolding good_record number_at
front_good bs cs e =
    let two = sym (get_d_part bs 0 28 2 (omega arith)) ∙ ap (λ (ys : List ℕ). get_or ys 2 0) e ∙ get_d_part cs 0 28 2 (omega arith) in
    (λ t. eqb (be (same 0 2 (omega arith) t)) (record_length (front_count bs cs e t)) && (eqb (two t) 1 && (good_count (front_count bs cs e t) && good_name (same 4 24 (omega arith) t))))
  where
    same : (at n : ℕ) → at + n ≤ 28 → part bs at n ≡ part cs at n
    same at n l =
        let z : 0 + at ≡ at = omega arith in
        ap (λ (k : ℕ). part bs k n) (sym z)
        ∙ sym (part-part bs 0 28 at n l)
        ∙ ap (λ (ys : List ℕ). part ys at n) e
        ∙ part-part cs 0 28 at n l
        ∙ ap (λ (k : ℕ). part cs k n) z
