-- The error limit of one coding: each sample that it stores is near its source sample, and the others stay.
use Rattle.std.proofs.Common.{◌≡◌, ℕ, ◌+◌, ◌-◌, ◌*◌, ◌<◌, ◌≤◌, Bool, true, false, cond, List, length, get_or, ℤ, pos, ◌-ℤ◌, Some, None, Option, sym, refl, ◌∙◌, subst, arith}
use Rattle.std.specs.Option as options
use Rattle.std.proofs.lemmas.Nat.{mul-add-lt}
use Rattle.std.proofs.lemmas.Bool.Decides.{nat_tests}
use Rattle.std.proofs.lemmas.Bool.{cond-true, cond-false}
use Rattle.kinds.specs.Meaning.{Meaning, Facts, Near}
use Rattle.ends.specs.declared.coding.Coding.{Coding}
use Rattle.ends.specs.Tasks.{Task}
use Rattle.ends.specs.declared.plane.Size.{Size}
use Rattle.ends.specs.Tasks.{Tile}
use Rattle.ends.specs.Planes.{bytes, sample}
use Rattle.ends.specs.Tiles.{sort_of, prediction, residual, reconstructed, covers, offset, code_levels, stored}
use Rattle.ends.specs.Calls.{task_of}
use Rattle.ends.proofs.Passed.{edge_bounds}
use Rattle.ends.proofs.Rows.{sample_with_tile}
use Rattle.ends.proofs.Elements.{Bytes, length_prediction, length_residual, get_or_residual, get_or_reconstructed, bytes_prediction, differences_residual, clip_near}

-- a sample, by what was last coded there
abbrev pub Close : Size → List ℕ → (col row : ℕ) → Option (ℕ × ℕ) → Type 0
Close s plane col row o =
    let v = sample s plane col row in
    options.MatchOption o (v ≡ 128) (λ c. (v ≤ c.0 + c.1) × (c.0 ≤ v + c.1))

unchanged : (s : Size) (before after : List ℕ) (col row : ℕ) (o : Option (ℕ × ℕ)) → sample s after col row ≡ sample s before col row → Close s before col row o → Close s after col row o
unchanged s before after col row None e c = e ∙ c
unchanged s before after col row (Some d) e c = subst (λ (v : ℕ). (v ≤ d.0 + d.1) × (d.0 ≤ v + d.1)) (sym e) c

-- where a place that the tile covers stands in it
in_tile : (t : Tile) (col row : ℕ) → covers t col row ≡ true → offset t col row < t.edge * t.edge
in_tile t col row e = mul-add-lt (row - t.y) t.edge (col - t.x) t.edge (grind (arith, nat_tests)) (grind (arith, nat_tests))

module _ (s : Size) (m : Meaning) (facts : Facts m) (plane : List ℕ) (long : length plane ≡ bytes s) (byte : Bytes plane)
    (c : Coding) (source : List ℕ) (sources : Bytes source) (low : c.qp ≤ 51) where
  abbrev task : Task
  task = task_of s m.edge c

  abbrev pred : List ℕ
  pred = prediction task.mode task.tile plane

  abbrev far : ℕ
  far = m.distance c.qp (sort_of task.mode)

  pub residual_long : length (residual source pred) ≡ m.edge * m.edge
  residual_long = length_residual source pred ∙ length_prediction task.mode task.tile plane

  module _ (rebuilt : List ℤ) (is : m.reconstruction c.qp (code_levels m task plane source) ≡ Some rebuilt) where
    near_source : (k : ℕ) → k < m.edge * m.edge
        → (get_or (reconstructed pred rebuilt) k 0 ≤ get_or source k 0 + far) × (get_or source k 0 ≤ get_or (reconstructed pred rebuilt) k 0 + far)
    near_source k h =
        let in-pred : k < length pred = let l = length_prediction task.mode task.tile plane in omega arith in
        let near = facts.near c.qp (sort_of task.mode) (residual source pred) rebuilt low residual_long
        (differences_residual source pred sources (bytes_prediction task.mode task.tile plane (edge_bounds m facts).0 byte)) is k h in
        let near' : Near (get_or rebuilt k (pos 0)) (pos (get_or source k 0) -ℤ pos (get_or pred k 0)) far =
        subst (λ (z : ℤ). Near (get_or rebuilt k (pos 0)) z far) (get_or_residual source pred k in-pred) near in
        subst (λ (v : ℕ). (v ≤ get_or source k 0 + far) × (get_or source k 0 ≤ v + far)) (sym (get_or_reconstructed pred rebuilt k in-pred))
        (clip_near (get_or pred k 0) (get_or source k 0) far (get_or rebuilt k (pos 0)) (sources k) near')

    pub code_close : (col row : ℕ) → col < s.width → row < s.height → (o : Option (ℕ × ℕ)) → Close s plane col row o
        → Close s (stored task plane (Some rebuilt)) col row (cond (covers task.tile col row) (Some (get_or source (offset task.tile col row) 0, far)) o)
    code_close col row hc hr o close = go (covers task.tile col row) refl
      where
        at : ℕ
        at = offset task.tile col row

        is_now : sample s (stored task plane (Some rebuilt)) col row ≡ cond (covers task.tile col row) (get_or (reconstructed pred rebuilt) at 0) (sample s plane col row)
        is_now = sample_with_tile task.tile (reconstructed pred rebuilt) plane col row long hc hr

        go : (b : Bool) → covers task.tile col row ≡ b → Close s (stored task plane (Some rebuilt)) col row (cond b (Some (get_or source at 0, far)) o)
        go true e = subst (λ (v : ℕ). (v ≤ get_or source at 0 + far) × (get_or source at 0 ≤ v + far)) (sym (is_now ∙ cond-true _ _ _ e)) (near_source at (in_tile task.tile col row e))
        go false e = unchanged s plane (stored task plane (Some rebuilt)) col row o (is_now ∙ cond-false _ _ _ e) close
