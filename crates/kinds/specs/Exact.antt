-- The exact kind: the level is the residual.
use Rattle.std.specs.Prelude.{Bool, cond, ◌&&◌, List, ℤ, pos, negsuc, Some, None, int_le}
use Rattle.std.specs.List.{list_all}
use Rattle.kinds.specs.Meaning.{Meaning}

-- a level that a residual can have: -255..255
abbrev pub narrow : ℤ → Bool
narrow level = int_le (negsuc 254) level && int_le level (pos 255)

abbrev pub all_narrow : List ℤ → Bool
all_narrow levels = list_all narrow levels

abbrev pub exact : Meaning
exact = record {
  edge = 4;
  tag = 5;
  levels = λ qp sort residual. residual;
  reconstruction = λ qp levels. cond (all_narrow levels) (Some levels) None;
  distance = λ qp sort. 0;
}
