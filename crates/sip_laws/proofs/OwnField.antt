-- The proxy's own Via field.
use Rattle.std.proofs.Common.{◌≡◌, ℕ, ◌+◌, true, List, [], ◌∷◌, ◌++◌, length, drop, refl, ap, ◌∙◌, arith, append_assoc, length-append, Some}
use Rattle.std.specs.Prelude.{codes, nat_eq}
use Rattle.std.specs.List.{starts_with}
use Rattle.std.specs.Fmt.{decimal}
use Rattle.std.proofs.lemmas.List.{append-nil, drop_at}
use Rattle.sip_words.proofs.Pieces.{part_is}
use Rattle.sip_fields.specs.Via.{via_at}
use Rattle.sip_scan.specs.declared.field.Kind.TheVariants as kind
use Rattle.sip_scan.specs.Field.{full_name, kind_of}
use Rattle.sip_scan.specs.Grammar.{IsFieldTree}
use Rattle.outside_ports.specs.declared.port.Addr.{Addr}
use Rattle.numerals.specs.Numerals.{dotted, socket}
use Rattle.sip_build.specs.Laws.{IsOwn, own_value, own_via}
use Rattle.sip_build.proofs.OwnVia.{own_reads}
use Rattle.sip_build.proofs.NewVia.{new_field, is_new_field}
use Rattle.sip_build.proofs.Twins.{behind_colon, value_text}
use Rattle.sip_laws.specs.Sent.{bytes_at}
use Rattle.sip_laws.proofs.Folded.{two_less}
use Rattle.sip_laws.proofs.Trees.{is_named, ListReads}
use Rattle.sip_laws.proofs.Hops.{one_list}
use Rattle.sip_laws.proofs.Reading.{cookie_in}

value_is : (listen : Addr) (branch : List ℕ) → value_text (new_field listen branch) ≡ own_value listen branch
unfolding value_text behind_colon new_field
value_is listen branch = two_less (own_value listen branch)

own_named : (listen : Addr) (branch : List ℕ) → is_named kind.Via (new_field listen branch) ≡ true
unfolding new_field kind_of full_name
own_named listen branch = refl

pieces : (a s b branch : List ℕ) → a ++ (s ++ (b ++ branch)) ≡ (a ++ (s ++ b)) ++ (branch ++ [])
pieces a s b branch = simp (append_assoc, append-nil)

branch_bytes : (listen : Addr) (branch : List ℕ) → bytes_at (own_value listen branch) (own_via 0 listen branch).branch ≡ Some branch
branch_bytes listen branch =
    let text = own_value listen branch in
    let front = codes " SIP/2.0/UDP " ++ (socket listen ++ codes ";branch=") in
    let at = 0 + 13 + length (dotted listen.ip) + 1 + length (decimal listen.port) + 8 in
    let len : length front ≡ at = omega (arith, length-append (codes " SIP/2.0/UDP ") (socket listen ++ codes ";branch="), length-append (socket listen) (codes ";branch="), length-append (dotted listen.ip) (58 ∷ decimal listen.port)) in
    let whole : text ≡ front ++ (branch ++ []) = pieces (codes " SIP/2.0/UDP ") (socket listen) (codes ";branch=") branch in
    ap (λ (x : List ℕ). Some x) (part_is text at branch [] (ap (λ (x : List ℕ). drop at x) whole ∙ drop_at front (branch ++ []) at len))

pub record OwnField (listen : Addr) (branch : List ℕ) : Type 0 where
  pub is : IsFieldTree (new_field listen branch)
  pub named : is_named kind.Via (new_field listen branch) ≡ true
  pub value : value_text (new_field listen branch) ≡ own_value listen branch
  pub reads : via_at (value_text (new_field listen branch)) 0 ≡ Some (own_via 0 listen branch)
  pub list : ListReads (new_field listen branch)
  pub cookie : cookie_in (bytes_at (value_text (new_field listen branch)) (own_via 0 listen branch).branch) ≡ true

pub own_field : (listen : Addr) (branch : List ℕ) → IsOwn listen branch → starts_with nat_eq branch (codes "z9hG4bK") ≡ true → OwnField listen branch
own_field listen branch own cookie =
    let value = value_is listen branch in
    let reads = ap (λ (x : List ℕ). via_at x 0) value ∙ own_reads (own_value listen branch) 0 listen branch own (omega arith) refl in
    record {
      is = is_new_field listen branch own;
      named = own_named listen branch;
      value = value;
      reads = reads;
      list = one_list (new_field listen branch) (own_via 0 listen branch) (own_named listen branch) reads refl;
      cookie = ap (λ (x : List ℕ). cookie_in (bytes_at x (own_via 0 listen branch).branch)) value ∙ ap cookie_in (branch_bytes listen branch) ∙ cookie;
    }
