-- What a hasher of keys computes: what the library's hasher in it does.
use Rattle.std.specs.Prelude.{ℕ, List}
use Rattle.std.specs.Hash.FoldHasher as fold
use Rattle.std.specs.Hash.DefaultHasher as sip
use Rattle.std.specs.RandomState.{initial_hasher}
use Rattle.key_hash.specs.declared.state.HashState.{HashState}
use Rattle.key_hash.specs.declared.state.HashState.TheVariants as state
use Rattle.key_hash.specs.declared.state.KeyHasher.{KeyHasher}
use Rattle.key_hash.specs.declared.state.KeyHasher.TheVariants.{Fixed, Random}

-- the hasher before it reads a key
abbrev pub build_hasher : HashState → KeyHasher
build_hasher state.Fixed = Fixed fold.initial
build_hasher (state.Random keys) = Random (initial_hasher keys)

-- the hasher after these bytes
abbrev pub write : KeyHasher → List ℕ → KeyHasher
write (Fixed hasher) bytes = Fixed (fold.write hasher bytes)
write (Random hasher) bytes = Random (sip.write hasher bytes)

-- the hash of what it has read
abbrev pub finish : KeyHasher → ℕ
finish (Fixed hasher) = fold.finish hasher
finish (Random hasher) = sip.finish hasher
