-- The lines of a scenario by themselves: what their parts are, and that at most one line is written by the same bytes.
use Rattle.std.proofs.Common.{◌≡◌, ◌≢◌, ℕ, ◌+◌, ◌≤◌, true, false, Bor, eqb, List, ◌∷◌, ◌++◌, length, get_or, take, drop, sym, ap, ◌∙◌, subst, [], arith, inl, inr}
use Rattle.std.specs.Prelude.{◌==◌, if◌then◌else◌, codes, Option, Some, None, IfNone}
use Rattle.std.specs.Cmp.Lexicographic.{pointwise}
use Rattle.std.proofs.lemmas.Fmt.{decimal_injective}
use Rattle.std.proofs.lemmas.Slice.Eq.{strip_prefix_is}
use Rattle.std.proofs.lemmas.Bool.Decides.{Decides-eqb}
use Rattle.outside_ports.specs.declared.port.Addr.{Addr}
use Rattle.sim_text.specs.declared.line.Line.{Line}
use Rattle.sim_text.specs.declared.line.Line.TheVariants.{Host, In, Text, Hex, End, Skipped}
use Rattle.numerals.specs.Numerals.{IsNumber, IsSocket}
use Rattle.sip_words.specs.Splits.{SplitsAt, Lacks}
use Rattle.sim_text.specs.Scenario.{State, IsHostLine, IsLine, GoesOn, Takes}
use Rattle.sim_text.proofs.Names.{name_lacks}
use Rattle.numerals.proofs.Addresses.{decimal_lacks, only_split, not_split, split_one_way, same_socket}

-- the bytes do not begin with a prefix that was not stripped
pub not_stripped : (line prefix : List ℕ) → pointwise eqb (take (length prefix) line) prefix ≡ false → (rest : List ℕ) → line ≢ prefix ++ rest
not_stripped line prefix h = strip_prefix_is Decides-eqb line prefix None h

number_lacks : (word : List ℕ) (n : ℕ) → IsNumber word n → Lacks 32 word
number_lacks word n h = rw h.1 (decimal_lacks 32 n h.0 (λ r. omega arith))

-- the moment and the address of a line `in` whose front was stripped
pub in_parts : (line rest front back : List ℕ) (at : ℕ) (from : Addr) → line ≡ codes "in " ++ rest → SplitsAt 32 rest front back
    → IsLine line (In at from) → IsNumber front at × IsSocket back from
in_parts line rest front back at from whole split h =
    let same : rest ≡ h.0 ++ 32 ∷ h.1 = cc in
    let parts = only_split 32 rest front back h.0 h.1 split same (number_lacks h.0 at h.3) in
    (rw parts.0 h.3, rw parts.1 h.4)

pub in_unsplit : (line rest : List ℕ) (at : ℕ) (from : Addr) → line ≡ codes "in " ++ rest → Lacks 32 rest → IsLine line (In at from) → ⊥
in_unsplit line rest at from whole lacks h =
    let same : rest ≡ h.0 ++ 32 ∷ h.1 = cc in not_split 32 rest h.0 h.1 lacks same

-- the name and the address of a line `host` whose front was stripped
pub host_parts : (line rest front back name : List ℕ) (address : Addr) → line ≡ codes "host " ++ rest → SplitsAt 32 rest front back
    → IsHostLine line name address → (front ≡ name) × IsSocket back address
host_parts line rest front back name address whole split h =
    let same : rest ≡ name ++ 32 ∷ h.0 = cc in
    let parts = only_split 32 rest front back name h.0 split same (name_lacks name h.2) in
    (parts.0, rw parts.1 h.3)

pub host_unsplit : (line rest name : List ℕ) (address : Addr) → line ≡ codes "host " ++ rest → Lacks 32 rest → IsHostLine line name address → ⊥
host_unsplit line rest name address whole lacks h =
    let same : rest ≡ name ++ 32 ∷ h.0 = cc in not_split 32 rest name h.0 lacks same

pub stripped : (line prefix : List ℕ) (rest : Bor (List ℕ))
    → (pointwise eqb (take (length prefix) line) prefix ≡ true) × (rest.now ≡ drop (length prefix) line) × (length rest.now + length prefix ≡ length line)
    → line ≡ prefix ++ rest.now
stripped line prefix rest h = strip_prefix_is Decides-eqb line prefix (Some rest) h

-- ---- what the first byte of a line tells

-- the kind of line that begins with this byte, by its number: 0 for a line that is skipped, and for none
abbrev kind_at : ℕ → ℕ
kind_at b =
    if b == 104 then 1 else if b == 105 then 2 else if b == 124 then 3 else if b == 43 then 4 else if b == 101 then 5 else 0

abbrev kind_of : Line → ℕ
kind_of (Host name address) = 1
kind_of (In at from) = 2
kind_of (Text text) = 3
kind_of (Hex digits) = 4
kind_of (End at) = 5
kind_of Skipped = 0

first_kind : List ℕ → ℕ
first_kind line = kind_at (get_or line 0 0)

begins : (line : List ℕ) (l : Line) → IsLine line l → first_kind line ≡ kind_of l
unfolding first_kind
begins line (Host name address) h = ap (λ t. kind_at (get_or t 0 0)) h.1
begins line (In at from) h = ap (λ t. kind_at (get_or t 0 0)) h.2
begins line (Text text) h = ap (λ t. kind_at (get_or t 0 0)) h
begins line (Hex digits) h = ap (λ t. kind_at (get_or t 0 0)) h
begins line (End at) h = ap (λ t. kind_at (get_or t 0 0)) h.1
begins line Skipped (inl h) = ap (λ t. kind_at (get_or t 0 0)) h
begins line Skipped (inr h) = ap (λ t. kind_at (get_or t 0 0)) h.1

same_kind : (line : List ℕ) (l l' : Line) → IsLine line l → IsLine line l' → kind_of l ≡ kind_of l'
same_kind line l l' h h' = sym (begins line l h) ∙ begins line l' h'

-- bytes that begin as `host` does are no other line
host_only : (line : List ℕ) → get_or line 0 0 ≡ 104 → ((name : List ℕ) (address : Addr) → IsHostLine line name address → ⊥) → (l : Line) → IsLine line l → ⊥
unfolding first_kind
host_only line first none (Host name address) h = none name.now address h
host_only line first none l h =
    let kind : 1 ≡ kind_of l = sym (ap kind_at first) ∙ begins line l h in absurd (omega (arith, kind))

-- bytes that begin as `end` does are no other line
end_only : (line : List ℕ) → get_or line 0 0 ≡ 101 → ((at : ℕ) → IsLine line (End at) → ⊥) → (l : Line) → IsLine line l → ⊥
unfolding first_kind
end_only line first none (End at) h = none at h
end_only line first none l h =
    let kind : 5 ≡ kind_of l = sym (ap kind_at first) ∙ begins line l h in absurd (omega (arith, kind))

-- a byte with which none of the other lines begins
pub record IsOther (b : ℕ) : Type 0 where
  pub comment : b ≢ 35
  pub text : b ≢ 124
  pub hex : b ≢ 43
  pub host : b ≢ 104
  pub end : b ≢ 101

-- bytes that begin as no other line does can be a line `in` alone
in_only : (line : List ℕ) → 1 ≤ length line → IsOther (get_or line 0 0)
    → ((at : ℕ) (from : Addr) → IsLine line (In at from) → ⊥) → (l : Line) → IsLine line l → ⊥
in_only line some other none (Host name address) h = other.host (ap (λ t. get_or t 0 0) h.1)
in_only line some other none (In at from) h = none at from h
in_only line some other none (Text body) h = other.text (ap (λ t. get_or t 0 0) h)
in_only line some other none (Hex digits) h = other.hex (ap (λ t. get_or t 0 0) h)
in_only line some other none (End at) h = other.end (ap (λ t. get_or t 0 0) h.1)
in_only line some other none Skipped (inl h) = let e : length line ≡ 0 = ap length h in omega arith
in_only line some other none Skipped (inr h) = other.comment (ap (λ t. get_or t 0 0) h.1)

pub host_alone : (line : List ℕ) (r : Option Line) → get_or line 0 0 ≡ 104
    → IfNone r ((name : List ℕ) (address : Addr) → IsHostLine line name address → ⊥) → IfNone r ((l : Line) → IsLine line l → ⊥)
host_alone line None first none = host_only line first none
host_alone line (Some l) first none = tt

pub end_alone : (line : List ℕ) (r : Option Line) → get_or line 0 0 ≡ 101 → IfNone r ((at : ℕ) → IsLine line (End at) → ⊥)
    → IfNone r ((l : Line) → IsLine line l → ⊥)
end_alone line None first none = end_only line first none
end_alone line (Some l) first none = tt

pub in_alone : (line : List ℕ) (r : Option Line) → 1 ≤ length line → IsOther (get_or line 0 0)
    → IfNone r ((at : ℕ) (from : Addr) → IsLine line (In at from) → ⊥) → IfNone r ((l : Line) → IsLine line l → ⊥)
in_alone line None some other none = in_only line some other none
in_alone line (Some l) some other none = tt

-- ---- the same bytes

-- a word is one moment, and one address
same_moment : (word word' : List ℕ) (at at' : ℕ) → IsNumber word at → IsNumber word' at' → word ≡ word' → at' ≡ at
same_moment word word' at at' h h' e = decimal_injective at' at h'.0 h.0 (sym h'.1 ∙ sym e ∙ h.1)

same_host : (line name name' : List ℕ) (address address' : Addr) → IsHostLine line name address → IsHostLine line name' address'
    → (name ≡ name') × (address ≡ address')
same_host line name name' address address' h h' =
    let same : name ++ 32 ∷ h.0 ≡ name' ++ 32 ∷ h'.0 = cc in
    let parts = split_one_way 32 name h.0 name' h'.0 same (name_lacks name h.2) (name_lacks name' h'.2) in
    (parts.0, same_socket h.0 h'.0 address address' h.3 h'.3 parts.1)

same_in : (line : List ℕ) (at at' : ℕ) (from from' : Addr) → IsLine line (In at from) → IsLine line (In at' from') → (at ≡ at') × (from ≡ from')
same_in line at at' from from' h h' =
    let same : h.0 ++ 32 ∷ h.1 ≡ h'.0 ++ 32 ∷ h'.1 = cc in
    let parts = split_one_way 32 h.0 h.1 h'.0 h'.1 same (number_lacks h.0 at h.3) (number_lacks h'.0 at' h'.3) in
    (same_moment h'.0 h.0 at' at h'.3 h.3 (sym parts.0), same_socket h.1 h'.1 from from' h.4 h'.4 parts.1)

same_end : (line : List ℕ) (at at' : ℕ) → IsLine line (End at) → IsLine line (End at') → at ≡ at'
same_end line at at' h h' =
    let same : h.0 ≡ h'.0 = cc in same_moment h'.0 h.0 at' at h'.2 h.2 (sym same)

-- the same bytes are taken in one way, whichever line is read from them
pub takes_alike : (line : List ℕ) (l l' : Line) (old new : State) → IsLine line l → IsLine line l' → Takes old l' new → Takes old l new
takes_alike line (Host name address) (Host name' address') old new h h' t =
    let same = same_host line name.now name'.now address address' h h' in (t.0, t.1, rw (same.0, same.1) t.2)
takes_alike line (In at from) (In at' from') old new h h' t =
    let same = same_in line at at' from from' h h' in (t.0, rw same.0 t.1, rw (same.0, same.1) t.2)
takes_alike line (Text text) (Text text') old new h h' t =
    let same : text'.now ≡ text.now = cc in
    let P : List ℕ → Type 0 = λ bytes. GoesOn old (bytes ++ 13 ∷ 10 ∷ []) new in subst P same t
takes_alike line (Hex digits) (Hex digits') old new h h' t =
    let same : digits'.now ≡ digits.now = cc in (t.0, rw (← same) t.1, t.2)
takes_alike line (End at) (End at') old new h h' t =
    let same = same_end line at at' h h' in (t.0, rw same t.1, rw same t.2, rw same t.3)
takes_alike line Skipped Skipped old new h h' t = t
takes_alike line l l' old new h h' t =
    let kinds : kind_of l ≡ kind_of l' = same_kind line l l' h h' in absurd (omega (arith, kinds))
