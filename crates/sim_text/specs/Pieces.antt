-- The first piece of a datagram.
use Rattle.std.specs.Prelude.{ℕ, suc, Bool, false, List, [], ◌∷◌, drop, if◌then◌else◌}
use Rattle.sim_text.specs.Trace.{is_crlf}

abbrev pub begins_crlf : List ℕ → Bool
begins_crlf [] = false
begins_crlf (a ∷ []) = false
begins_crlf (a ∷ b ∷ rest) = is_crlf a b

abbrev pub crlf_at : List ℕ → ℕ → Bool
crlf_at bytes i = begins_crlf (drop i bytes)

-- how long the first piece is
unfoldable pub first_len : List ℕ → ℕ
first_len [] = 0
first_len (a ∷ []) = 1
first_len (a ∷ b ∷ rest) = if is_crlf a b then 2 else suc (first_len (b ∷ rest))
