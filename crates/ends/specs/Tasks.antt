-- What a coding that has passed its rules comes to: a tile, and the task on it.
use Rattle.std.specs.Prelude.{ℕ, ◌+◌, ◌<◌, ◌≤◌, Bool, false, ◌==◌, ◌≡◌}
use Rattle.ends.specs.declared.mode.Mode.{Mode}
use Rattle.ends.specs.declared.mode.Mode.TheVariants.{Colocated, Vertical, Horizontal, Mean}
use Rattle.ends.specs.declared.plane.Size.{Size}

-- a square of a plane's samples: the plane's size, the place of the top left sample, and the edge
pub record Tile : Type 0 where
  pub size : Size
  pub x : ℕ
  pub y : ℕ
  pub edge : ℕ

pub record Task : Type 0 where
  pub tile : Tile
  pub mode : Mode
  pub qp : ℕ

-- the tile has an edge up to 16, and lies in its plane
pub record Placed (t : Tile) : Type 0 where
  pub right : t.x + t.edge ≤ t.size.width
  pub bottom : t.y + t.edge ≤ t.size.height
  pub some : 0 < t.edge
  pub few : t.edge ≤ 16

-- the samples that the mode repeats lie outside the plane
abbrev pub lacks_border : Tile → Mode → Bool
lacks_border t Colocated = false
lacks_border t Vertical = t.y == 0
lacks_border t Horizontal = t.x == 0
lacks_border t Mean = false

-- the samples that the mode repeats lie in the plane
pub record Bordered (t : Tile) (mode : Mode) : Type 0 where
  pub above : mode ≡ Vertical → 0 < t.y
  pub left : mode ≡ Horizontal → 0 < t.x
