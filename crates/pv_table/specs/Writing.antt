-- What an assignment makes of the facts of a run: one row a variable. Where a row doesn't say otherwise it does nothing.
use Rattle.std.specs.Prelude.{ℕ, ℤ, pos, negsuc, ◌&&◌, List, ◌∷◌, length, Option, Some, None, nat_le, nat_lt, if◌then◌else◌, unwrap_or}
use Rattle.pv_values.specs.declared.value.Val.{Val}
use Rattle.pv_values.specs.declared.value.Val.TheVariants.{Null, Int, Text}
use Rattle.pv_values.specs.declared.variable.PvUse.{PvUse}
use Rattle.pv_values.specs.declared.variable.PvUse.TheVariants as pv
use Rattle.pv_values.specs.Kinds.{is_written_in}
use Rattle.pv_values.specs.Values.{number_of, text_of}
use Rattle.sip_fields.specs.Uri.{is_absolute}
use Rattle.pv_table.specs.declared.avps.Avp.{Avp}
use Rattle.pv_table.specs.declared.facts.Facts.{Facts}
use Rattle.pv_table.specs.Avps.{without_newest}
use Rattle.pv_table.specs.UriParts.{with_user, with_host, with_port}

-- a value's text; None of Null
abbrev pub text_in : Val → Option (List ℕ)
text_in Null = None
text_in (Int n) = Some (text_of (Int n))
text_in (Text t) = Some t

-- a target URI: the text, where it has a scheme, a colon and one more byte
abbrev pub uri_assigned : List ℕ → Val → List ℕ
uri_assigned uri v = if is_absolute (text_of v) then text_of v else uri

-- Null takes the user away, with the password and the `@`
abbrev pub user_assigned : List ℕ → Val → List ℕ
user_assigned uri v = unwrap_or (with_user uri (text_in v)) uri

abbrev pub host_assigned : List ℕ → Val → List ℕ
host_assigned uri Null = uri
host_assigned uri (Int n) = unwrap_or (with_host uri (text_of (Int n))) uri
host_assigned uri (Text t) = unwrap_or (with_host uri t) uri

-- a port is a number from 1 to 65535
abbrev pub with_number : List ℕ → Option ℤ → List ℕ
with_number uri None = uri
with_number uri (Some (pos n)) = if nat_le 1 n && nat_lt n 65536 then unwrap_or (with_port uri n) uri else uri
with_number uri (Some (negsuc n)) = uri

abbrev pub port_assigned : List ℕ → Val → List ℕ
port_assigned uri v = with_number uri (number_of v)

-- the most AVPs that a transaction can have
abbrev pub most_avps : ℕ
most_avps = 256

-- a value goes before the others; Null takes the newest one away
abbrev pub avps_assigned : List ℕ → List Avp → Val → List Avp
avps_assigned name avps Null = without_newest name avps
avps_assigned name avps (Int n) = if nat_lt (length avps) most_avps then record { name = name; value = Int n } ∷ avps else avps
avps_assigned name avps (Text t) = if nat_lt (length avps) most_avps then record { name = name; value = Text t } ∷ avps else avps

-- what an assignment makes of the facts, in a block that may assign the variable
abbrev pub written : Facts → PvUse → Val → Facts
written f pv.RequestUri v = record f { uri = uri_assigned f.uri v }
written f pv.RequestUser v = record f { uri = user_assigned f.uri v }
written f pv.RequestHost v = record f { uri = host_assigned f.uri v }
written f pv.RequestPort v = record f { uri = port_assigned f.uri v }
written f pv.DestinationUri v = record f { destination = text_in v }
written f (pv.Avp name) v = record f { avps = avps_assigned name f.avps v }
written f _ v = f

-- in a run that a block of another kind began an assignment does nothing
abbrev pub assigned : Facts → PvUse → Val → Facts
assigned f name v = if is_written_in name f.kind then written f name v else f
