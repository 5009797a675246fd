-- What the camera's side holds: the camera, its plane, and all that it has given out.
use Rattle.std.specs.Prelude.{ℕ, List}
use Rattle.ends.specs.declared.camera.Camera.{Camera}
use Rattle.script.specs.declared.camera_side.Given.{Given}

pub record CameraState : Type 0 where
  pub camera : Camera
  pub plane : List ℕ
  pub given : List Given
