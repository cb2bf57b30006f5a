-- The name of a host: its bytes, and that it is the name that the grammar of a message reads.
use Rattle.std.proofs.Common.{◌≡◌, ◌≢◌, ℕ, ◌+◌, true, List, [], ◌++◌, length, drop, refl, sym, ap, ◌∙◌, subst, arith, append-nil, Some}
use Rattle.std.specs.Prelude.{slice_range}
use Rattle.std.proofs.lemmas.List.Elements.{All-weaker, All-from_recursion}
use Rattle.std.proofs.lemmas.List.{drop_all, take_all}
use Rattle.std.proofs.lemmas.Slice.{between_from_start}
use Rattle.std.proofs.lemmas.Option.{same_Some}
use Rattle.sip_words.specs.declared.bytes.Class.TheVariants as class
use Rattle.sip_words.specs.Bytes.{has}
use Rattle.sip_words.specs.Splits.{Lacks}
use Rattle.sip_words.specs.Words.{word_end}
use Rattle.sip_words.proofs.Steps.{bind_some}
use Rattle.sip_fields.specs.declared.host.Host.{Host}
use Rattle.sip_fields.specs.declared.host.Host.TheVariants.{Name}
use Rattle.sip_fields.specs.Host.{host_of, host_at}
use Rattle.sip_fields.specs.Parts.{HostTree, Numbers, Named, host, IsName, IsHost, host_value}
use Rattle.sip_fields.proofs.Hosts.{host_takes, host_again}

-- the bytes of a name have no SP
no_blank : (b : ℕ) → has class.Name b ≡ true → b ≢ 32
unfolding has
no_blank b h e = let blank : has class.Name 32 ≡ true = subst (λ x. has class.Name x ≡ true) e h in absurd (cc)

pub name_lacks : (name : List ℕ) → IsName name → Lacks 32 name
name_lacks name h =
    All-weaker (λ b. has class.Name b ≡ true) (λ b. b ≢ 32) no_blank name (All-from_recursion (λ b. has class.Name b ≡ true) name h.word.all)

-- the bytes as a whole are read as a name
named_at : (w : List ℕ) → word_end class.Name w 0 ≡ Some (length w) → host_of w ≡ Name → host_at w 0 ≡ Some (Name, length w)
unfolding host_at
named_at w word name =
    let whole : slice_range w 0 (length w) ≡ w = between_from_start w (length w) ∙ take_all (length w) w (omega arith) in
    rw (word, whole, name) refl

-- so they are one
is_name : (w : List ℕ) (t : HostTree) → host_at w 0 ≡ Some (Name, length w) → w ≡ host t → IsHost t → IsName w
is_name w (Named v) at e is = subst IsName (sym e) is
is_name w (Numbers a b c d) at e is =
    let again = host_again w 0 (Numbers a b c d) [] (e ∙ sym (append-nil (host (Numbers a b c d)))) is tt in
    let name : Host × ℕ = (Name, length w) in
    let numbers : Host × ℕ = (host_value (Numbers a b c d), 0 + length (host (Numbers a b c d))) in
    let both : Some name ≡ Some numbers = sym at ∙ again in
    let same : Name ≡ host_value (Numbers a b c d) = ap (λ (x : Host × ℕ). x.0) (same_Some name numbers both) in absurd (cc)

pub to_name : (w : List ℕ) → word_end class.Name w 0 ≡ Some (length w) → host_of w ≡ Name → IsName w
to_name w word name =
    let at = named_at w word name in
    let t = host_takes w 0 (Name, length w) at in
    let rest : drop (length w) w ≡ [] = drop_all (length w) w (omega arith) in
    is_name w t.0 at (t.1.whole ∙ ap (λ xs. host t.0 ++ xs) rest ∙ append-nil (host t.0)) t.2

pub from_name : (w : List ℕ) → IsName w → (word_end class.Name w 0 ≡ Some (length w)) × (host_of w ≡ Name)
unfolding host_at
from_name w h =
    let again = host_again w 0 (Named w) [] (sym (append-nil w)) h tt in
    let e = bind_some (word_end class.Name w 0) _ _ again in
    let parts = same_Some _ _ e.2 in
    let end : e.0 ≡ length w = ap (λ (x : Host × ℕ). x.1) parts ∙ omega arith in
    let whole : slice_range w 0 e.0 ≡ w = rw end (between_from_start w (length w) ∙ take_all (length w) w (omega arith)) in
    let kind : host_of (slice_range w 0 e.0) ≡ Name = ap (λ (x : Host × ℕ). x.0) parts in
    (e.1 ∙ ap Some end, rw whole at kind)
