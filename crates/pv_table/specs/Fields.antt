-- Header fields by their names (RFC 3261, section 7.3).
use Rattle.std.specs.Prelude.{ℕ, ◌==◌, Bool, ◌||◌, ◌&&◌, List, [], ◌∷◌, length, drop, Option, Some, None, if◌then◌else◌, option_map}
use Rattle.std.specs.List.{find}
use Rattle.sip_words.specs.Words.{lws_end}
use Rattle.sip_scan.specs.declared.field.HeaderSpan.{HeaderSpan}
use Rattle.sip_scan.specs.Field.{is_word, full_name}
use Rattle.sip_msg.specs.declared.message.Message.{Message}
use Rattle.pv_table.specs.UriParts.{bytes_at}

-- compact and long names are one name, and case is ignored
abbrev pub is_field_named : List ℕ → List ℕ → HeaderSpan → Bool
is_field_named b name f = is_word (full_name (bytes_at b f.name)) (full_name name)

-- the bytes of LWS: SP, HTAB, and CR and LF, which stand in a value only as folds
abbrev pub is_lws_byte : ℕ → Bool
is_lws_byte b = (b == 32) || (b == 9) || (b == 13) || (b == 10)

-- a text without the LWS at its end
abbrev pub end_trimmed : List ℕ → List ℕ
end_trimmed [] = []
end_trimmed (b ∷ bs) = if is_lws_byte b && (length (end_trimmed bs) == 0) then [] else b ∷ end_trimmed bs

-- without the LWS round it
abbrev pub trimmed : List ℕ → List ℕ
trimmed text = end_trimmed (drop (lws_end text 0) text)

-- the value of the first field of a name, without the LWS round it
abbrev pub field_value : List ℕ → Message → List ℕ → Option (List ℕ)
field_value b m name = option_map (λ f. trimmed (bytes_at b f.value)) (find (is_field_named b name) m.head.fields.items)
