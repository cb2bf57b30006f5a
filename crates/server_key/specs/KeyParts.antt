-- A key that is kept, as contracts see it.
use Rattle.std.specs.Prelude.{ℕ, List}

-- the branch, the host in lower case, the port and the method of a key
pub record KeyParts : Type 0 where
  pub branch : List ℕ
  pub host : List ℕ
  pub port : ℕ
  pub method : List ℕ
