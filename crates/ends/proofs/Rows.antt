-- Rows of samples: parts of a list, a tile filled row by row, and a plane written row by row.
use Rattle.std.proofs.Common.{◌≡◌, ℕ, ◌+◌, ◌-◌, ◌*◌, ◌/◌, ◌%◌, ◌<◌, ◌≤◌, Bool, cond, ◌&&◌, eqb, ltb, leb, List, ◌++◌, map, length, get_or, drop, length-append, sym, ap, ◌∙◌, subst, ⊎_elim, arith, rules}
use borrow.Rule.Slice.PartMut.{put_mid}
use Rattle.std.specs.List.{range_with_len}
use Rattle.std.proofs.lemmas.List.FromFn.{fill_by_all, length-map-range_with_len, get_or-map-range_with_len}
use Rattle.std.proofs.lemmas.List.{places, ext_get_or, get_or_append_left, get_or-drop, length-drop, drop-drop}
use Rattle.std.proofs.Math.Seq.{drop-append_seam}
use Rattle.std.proofs.lemmas.Bool.Decides.{nat_tests}
use Rattle.std.proofs.lemmas.Nat.{mul-le, mul-add-lt, div-mul-add, mod-mul-add, div-add-mod', div_below, mod_below}
use Rattle.std.proofs.lemmas.Bool.{cases_eq, cases_lt, cases_order}
use Rattle.ends.specs.declared.plane.Size.{Size}
use Rattle.ends.specs.Tasks.{Tile}
use Rattle.ends.specs.Planes.{bytes, sample}
use Rattle.ends.specs.Tiles.{covers, offset, with_tile}

-- ---- parts of a list

-- row i of h rows of n ends in them
pub row_end : (i n h : ℕ) → i < h → i * n + n ≤ n * h
row_end i n h l = omega (arith, mul-le (i + 1) n h n (omega arith) (omega arith))

-- count samples from (x, y) on, to the right, lie in a plane that is so long
pub record Within (s : Size) (long x y count : ℕ) : Type 0 where
  pub size : long ≡ bytes s
  pub right : x + count ≤ s.width
  pub bottom : y < s.height

-- a column and a row are among count places from (x, y) on, to the right
abbrev pub on_row : (x y count : ℕ) → (col row : ℕ) → Bool
on_row x y count col row = eqb row y && (leb x col && ltb col (x + count))

pub within_end : (s : Size) (bytes x y count : ℕ) → Within s bytes x y count → y * s.width + x + count ≤ bytes
within_end s bytes x y count w = let a = w.size in let b = w.right in omega (arith, row_end y s.width s.height w.bottom)

-- a list with ys written from a on
module _ (a k : ℕ) (xs ys : List ℕ) (low : a ≤ length xs) where
  pub put_before : (i : ℕ) → i < a → get_or (put_mid a k xs ys) i 0 ≡ get_or xs i 0
  put_before i h = search (rules, places)

  pub put_in : (i : ℕ) → i < length ys → get_or (put_mid a k xs ys) (a + i) 0 ≡ get_or ys i 0
  put_in i h = search (rules, places)

  pub put_after : (i : ℕ) → length ys ≡ k → a + k ≤ i → get_or (put_mid a k xs ys) i 0 ≡ get_or xs i 0
  put_after i e h = search (rules, places)

-- ---- a tile, filled row by row

-- the samples from row i of n on: a row, and the rows below it
module _ (i n : ℕ) (samples from row below : List ℕ) (square : length samples ≡ n * n) (some : 0 < n) (is : from ≡ drop (i * n) samples) (cut : from ≡ row ++ below) (wide : length row ≡ n) where
  pub row_in : i < n
  row_in = ⊎_elim
      (λ (l : i < n). l)
      (λ (l : n ≤ i). absurd (omega (arith, mul-le n n i n l (omega arith), ap length is, length-drop (i * n) samples, ap length cut, length-append row below)))
      (cases_lt i n)

  pub row_holds : (j : ℕ) → j < n → get_or row j 0 ≡ get_or samples (i * n + j) 0
  row_holds j h = sym (get_or_append_left row below 0 j (omega arith)) ∙ ap (λ (xs : List ℕ). get_or xs j 0) (sym cut ∙ is) ∙ get_or-drop (i * n) samples j 0

  pub below_is : below ≡ drop ((i + 1) * n) samples
  below_is =
      sym (drop-append_seam row below)
      ∙ ap (drop (length row)) (sym cut ∙ is)
      ∙ drop-drop (length row) (i * n) samples
      ∙ ap (λ (k : ℕ). drop k samples) (omega arith)

-- where fewer samples than a row are left, there were all rows
pub rows_end : (i n : ℕ) (samples from : List ℕ) → length samples ≡ n * n → from ≡ drop (i * n) samples → length from < n → i ≤ n → i ≡ n
rows_end i n samples from square is few last = ⊎_elim
    (λ (l : i < n). absurd (omega (arith, mul-le (i + 1) n n n (omega arith) (omega arith), ap length is, length-drop (i * n) samples)))
    (λ (l : n ≤ i). omega arith)
    (cases_lt i n)

-- rows below i of a tile of edge n hold f of column and row
abbrev pub Rows : (ℕ → ℕ → ℕ) → ℕ → List ℕ → ℕ → Type 0
Rows f n tile i = (r j : ℕ) → r < i → j < n → get_or tile (r * n + j) 0 ≡ f j r

module _ (f : ℕ → ℕ → ℕ) (n : ℕ) where
  pub rows_more : (old new : List ℕ) (i : ℕ) → ((j : ℕ) → j < n → get_or new (i * n + j) 0 ≡ f j i) → ((k : ℕ) → k < i * n → get_or new k 0 ≡ get_or old k 0)
      → Rows f n old i → Rows f n new (i + 1)
  rows_more old new i here before rows r j hr hj = ⊎_elim
      (λ (l : r < i). before (r * n + j) (omega (arith, mul-add-lt r n j i l hj)) ∙ rows r j l hj)
      (λ (l : i ≤ r). subst (λ (q : ℕ). get_or new (q * n + j) 0 ≡ f j q) (let e : i ≡ r = omega arith in e) (here j hj))
      (cases_lt r i)

  pub rows_all : (tile : List ℕ) → 0 < n → length tile ≡ n * n → Rows f n tile n → tile ≡ map (λ k. f (k % n) (k / n)) (range_with_len 0 (n * n))
  rows_all tile some long rows = fill_by_all _ tile (n * n) 0 long (λ k h.
      ap (λ (q : ℕ). get_or tile q 0) (sym (div-add-mod' k n)) ∙ rows (k / n) (k % n) (div_below k n n some h) (mod_below k n some))

-- ---- a plane, written row by row

module _ (s : Size) where
  -- planes that have the same samples are the same
  pub same_plane : (p q : List ℕ) → length p ≡ s.width * s.height → length p ≡ length q → 0 < s.width
      → ((col row : ℕ) → col < s.width → row < s.height → sample s p col row ≡ sample s q col row) → p ≡ q
  same_plane p q long e some h = ext_get_or 0 p q e (λ i l.
      let at : i / s.width * s.width + i % s.width ≡ i = div-add-mod' i s.width in
      ap (λ (k : ℕ). get_or p k 0) (sym at) ∙ h (i % s.width) (i / s.width) (mod_below i s.width some) (div_below i s.width s.height some (omega arith)) ∙ ap (λ (k : ℕ). get_or q k 0) at)

  -- a row of samples written from (x, y) on
  module _ (old samples : List ℕ) (x y k : ℕ) (w : Within s (length old) x y (length samples)) (is : length samples ≡ k) where
    abbrev first : ℕ
    first = y * s.width + x

    abbrev written : List ℕ
    written = put_mid first k old samples

    low : first ≤ length old
    low = omega (arith, within_end s (length old) x y (length samples) w)

    pub row_written : (col row : ℕ) → col < s.width → row < s.height
        → sample s written col row ≡ cond (on_row x y (length samples) col row) (get_or samples (col - x) 0) (sample s old col row)
    row_written col row hc hr = ⊎_elim level (⊎_elim higher lower) (cases_order row y)
      where
        at : ℕ
        at = row * s.width + col

        higher : row < y → sample s written col row ≡ cond (on_row x y (length samples) col row) (get_or samples (col - x) 0) (sample s old col row)
        higher l = let e = put_before first k old samples low at (omega (arith, mul-add-lt row s.width col y l hc)) in grind (arith, nat_tests)

        lower : y < row → sample s written col row ≡ cond (on_row x y (length samples) col row) (get_or samples (col - x) 0) (sample s old col row)
        lower l = let e = put_after first k old samples low at is (let r = w.right in omega (arith, row_end y s.width row l)) in grind (arith, nat_tests)

        level : row ≡ y → sample s written col row ≡ cond (on_row x y (length samples) col row) (get_or samples (col - x) 0) (sample s old col row)
        level e =
            let p : row * s.width ≡ y * s.width = ap (λ (q : ℕ). q * s.width) e in
            ⊎_elim
            (λ (l : col < x). let q = put_before first k old samples low at (omega arith) in grind (arith, nat_tests))
            (λ (l : x ≤ col). ⊎_elim
            (λ (u : col < x + length samples).
            let z : first + (col - x) ≡ at = omega arith in
            let q = rw z at (put_in first k old samples low (col - x) (omega arith)) in
            grind (arith, nat_tests))
            (λ (u : x + length samples ≤ col). let q = put_after first k old samples low at is (omega arith) in grind (arith, nat_tests))
            (cases_lt col (x + length samples)))
            (cases_lt col x)

-- the first i rows of the tile are stored
abbrev pub Part : Tile → List ℕ → List ℕ → List ℕ → ℕ → Type 0
Part t tile old plane i = (col row : ℕ) → col < t.size.width → row < t.size.height
    → sample t.size plane col row
    ≡ cond ((leb t.x col && ltb col (t.x + t.edge)) && (leb t.y row && ltb row (t.y + i))) (get_or tile (offset t col row) 0) (sample t.size old col row)

module _ (t : Tile) (tile old : List ℕ) where
  pub part_more : (plane new row-i : List ℕ) (i : ℕ) → length row-i ≡ t.edge → ((j : ℕ) → j < t.edge → get_or row-i j 0 ≡ get_or tile (i * t.edge + j) 0)
      → ((col row : ℕ) → col < t.size.width → row < t.size.height
      → sample t.size new col row ≡ cond (on_row t.x (t.y + i) (length row-i) col row) (get_or row-i (col - t.x) 0) (sample t.size plane col row))
      → Part t tile old plane i → Part t tile old new (i + 1)
  part_more plane new row-i i long is written part col row hc hr =
      let now = written col row hc hr in
      let before = part col row hc hr in
      ⊎_elim
      (λ (e : row ≡ t.y + i).
      let z : i ≡ row - t.y = omega arith in
      let here : col - t.x < t.edge → get_or row-i (col - t.x) 0 ≡ get_or tile (offset t col row) 0 =
      λ h. is (col - t.x) h ∙ ap (λ (q : ℕ). get_or tile (q * t.edge + (col - t.x)) 0) z in
      grind (arith, nat_tests))
      (λ (ne : row ≡ t.y + i → ⊥). grind (arith, nat_tests))
      (cases_eq row (t.y + i))

  pub sample_with_tile : (col row : ℕ) → length old ≡ t.size.width * t.size.height → col < t.size.width → row < t.size.height
      → sample t.size (with_tile t tile old) col row ≡ cond (covers t col row) (get_or tile (offset t col row) 0) (sample t.size old col row)
  unfolding with_tile
  sample_with_tile col row e hc hr =
      let inside : row * t.size.width + col < length old = omega (arith, mul-add-lt row t.size.width col t.size.height hr hc) in
      let d = div-mul-add row t.size.width col hc in
      let m = mod-mul-add row t.size.width col hc in
      get_or-map-range_with_len _ 0 (length old) (row * t.size.width + col) (row * t.size.width + col) 0 inside (omega arith) ∙ rw (d, m)

  pub length_with_tile : length (with_tile t tile old) ≡ length old
  unfolding with_tile
  length_with_tile = length-map-range_with_len _ 0 (length old)

  pub part_all : (plane : List ℕ) → length old ≡ t.size.width * t.size.height → 0 < t.size.width → length plane ≡ length old → Part t tile old plane t.edge → plane ≡ with_tile t tile old
  part_all plane size some long part = same_plane t.size plane (with_tile t tile old) (long ∙ size) (long ∙ sym length_with_tile) some
      (λ col row hc hr. part col row hc hr ∙ sym (sample_with_tile col row size hc hr))
