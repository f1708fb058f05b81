-- Frames that are whole: each has the bytes of its sample spec.
use Rattle.std.specs.Prelude.{◌≡◌, ℕ, List, length}
use Rattle.std.specs.List.{AllByRecursion}
use Rattle.px_model.specs.Frame.{Frame}

-- each frame has `size` bytes
abbrev pub AreFramesOf : ℕ → List Frame → Type 0
AreFramesOf size frames = AllByRecursion (λ frame. length frame ≡ size) frames
