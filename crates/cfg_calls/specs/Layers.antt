-- The variables in whose brackets a name stands, each by itself, and the pieces of a text.
use Rattle.std.specs.Prelude.{ℕ, zero, suc, List}
use Rattle.pv_values.specs.declared.refusal.Place.{Place}
use Rattle.pv_values.specs.declared.variable.PvUse.TheVariants as pv
use Rattle.cfg_tree.specs.declared.script.Part.{Part}
use Rattle.cfg_tree.specs.declared.script.Part.TheOpen.{Part-F}
use Rattle.cfg_tree.specs.Variables.{Piece}
use Rattle.cfg_tree.specs.Names.{Known, piece_part, plain_part, expansion_within, Layer, host_layer, var_number, some_text, avp_name, named, suspension_names}
use Rattle.cfg_tree.specs.Refusals.{Checked, one, from_some}
use Rattle.cfg_tree.specs.declared.refusal_kind.RefusalKind.TheVariants.{UnknownVariable}

-- $var(NAME)
abbrev pub var_layer : Place → List ℕ → Checked Layer
var_layer at inner = from_some (some_text inner) UnknownVariable at (λ n. one (λ x. Part-F.Var x) (var_number n))

-- $avp(NAME)
abbrev pub avp_layer : Place → List ℕ → Checked Layer
avp_layer at inner = from_some (avp_name inner) UnknownVariable at (λ n. host_layer (pv.Avp n))

-- $hdr(NAME)
abbrev pub header_layer : Place → List ℕ → Checked Layer
header_layer at inner = from_some (some_text inner) UnknownVariable at (λ n. host_layer (pv.Header n))

-- $T(NAME)
abbrev pub suspension_layer : Place → List ℕ → Checked Layer
suspension_layer at inner = from_some (named inner suspension_names) UnknownVariable at host_layer

-- a piece of a text where so many variables, one in the key of another, may still be opened
abbrev pub piece_within : ℕ → Known → Place → Piece → Checked Part
piece_within zero known at p = plain_part at p
piece_within (suc depth) known at p = piece_part known (expansion_within depth known at) at p
