-- Where a sink's frames go.
use Rattle.std.specs.Prelude.{ℕ, List, ◌++◌, codes}

-- the path of the file of a sink with this name, in this folder
abbrev pub file_path : List ℕ → List ℕ → List ℕ
file_path folder name = folder ++ (codes "/" ++ (name ++ codes ".raw"))
