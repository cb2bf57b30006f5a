-- The parts of a value that is read say what its tree says, wherever it stands.
use Rattle.std.proofs.Common.{◌≡◌, ℕ, ◌+◌, ◌≤◌, List, [], ◌∷◌, ◌++◌, length, drop, refl, sym, ap, ◌∙◌, subst, arith, append_assoc, length-append, inl, inr, Option, Some, None, option_map}
use Rattle.std.specs.Prelude.{codes}
use Rattle.std.specs.Str.{str_eq_ignore_ascii_case}
use Rattle.std.proofs.lemmas.Bool.{cases_Bool}
use Rattle.std.proofs.lemmas.Option.{same_Some}
use Rattle.sip_words.specs.Spans.{span}
use Rattle.sip_words.specs.Grammar.{lws, separator, ValueTree, value, ParamTree, assigned, param, value_place, params, named_place, named_tree}
use Rattle.sip_words.proofs.Pieces.{behind, part_is}
use Rattle.sip_fields.specs.declared.via.Via.{Via}
use Rattle.sip_fields.specs.declared.name_addr.NameAddr.{NameAddr}
use Rattle.sip_fields.specs.Parts.{host, host_value, port, port_value, tail, value_of_param}
use Rattle.sip_fields.specs.Parts as parts
use Rattle.sip_fields.specs.Via.{via_at}
use Rattle.sip_fields.specs.ViaGrammar.{ViaTree, protocol, via, via_place}
use Rattle.sip_fields.specs.NameAddr.{name_addr_at}
use Rattle.sip_fields.specs.NameAddrGrammar.{NameAddrTree, address, name_addr, name_addr_place}
use Rattle.sip_fields.proofs.ViaAgain.{via_again, value_here}
use Rattle.sip_fields.proofs.ViaTakes.{via_takes}
use Rattle.sip_fields.proofs.NameAddrLaw.{name_addr_again, name_addr_takes}
use Rattle.sip_build.specs.Parts.{part}
use Rattle.sip_build.proofs.ReadTwins.{Alike}
use Rattle.sip_laws.specs.Sent.{bytes_at, SameVia}

-- the value of a parameter
abbrev pub tree_value : Option ParamTree → Option (List ℕ)
tree_value None = None
tree_value (Some p) = option_map value p.value

one_value : (text : List ℕ) (i : ℕ) (v : Option ValueTree) (rest : List ℕ) → drop i text ≡ assigned v ++ rest → bytes_at text (value_place i v) ≡ option_map value v
one_value text i None rest h = refl
one_value text i (Some v) rest h = ap (λ (w : List ℕ). Some w) (part_is text (i + 1) (value v) rest (behind text i (61 ∷ []) (value v ++ rest) h))

pub named_bytes : (name text : List ℕ) (i : ℕ) (ps : List ParamTree) (rest : List ℕ) → drop i text ≡ params ps ++ rest → bytes_at text (value_of_param (named_place name i ps)) ≡ tree_value (named_tree name ps)
named_bytes name text i [] rest h = refl
named_bytes name text i (p ∷ ps) rest h =
    let whole = h ∙ append_assoc (param p) (params ps) rest in
    elim (cases_Bool (str_eq_ignore_ascii_case p.name name)) [
      | inl t ↦ rw t (one_value text (i + length (separator 59 p.semicolon) + length p.name) p.value (params ps ++ rest) (value_here text i p (params ps ++ rest) whole))
      | inr f ↦ rw f (named_bytes name text (i + length (param p)) ps rest (behind text i (param p) (params ps ++ rest) whole))
    ]

-- a Via value from its protocol to its last parameter
abbrev pub core : ViaTree → List ℕ
core t = protocol t ++ (host t.host ++ (port t.port ++ params t.params))

pub record Says (text : List ℕ) (v : Via) (t : ViaTree) : Type 0 where
  pub host : v.host ≡ host_value t.host
  pub host_bytes : part text v.host_at ≡ parts.host t.host
  pub port : v.port ≡ port_value t.port
  pub branch : bytes_at text v.branch ≡ tree_value (named_tree (codes "branch") t.params)
  pub whole : part text v.whole ≡ core t

regroup : (a b c d e : List ℕ) → a ++ (b ++ (c ++ (d ++ e))) ≡ (a ++ (b ++ (c ++ d))) ++ e
regroup a b c d e = simp append_assoc

pub says : (text : List ℕ) (i : ℕ) (t : ViaTree) → drop i text ≡ via t → Says text (via_place i t) t
says text i t h =
    let at_1 = behind text i (lws t.lead) _ h in
    let at_2 = behind text _ (protocol t) _ at_1 in
    let at_3 = behind text _ (host t.host) _ at_2 in
    let at_4 = behind text _ (port t.port) _ at_3 in
    let start = i + length (lws t.lead) in
    let all = part_is text start (core t) (tail t.tail) (at_1 ∙ regroup (protocol t) (host t.host) (port t.port) (params t.params) (tail t.tail)) in
    let len : start + length (core t) ≡ start + length (protocol t) + length (host t.host) + length (port t.port) + length (params t.params) =
    omega (arith, length-append (protocol t) (host t.host ++ (port t.port ++ params t.params)), length-append (host t.host) (port t.port ++ params t.params), length-append (port t.port) (params t.params)) in
    record {
      host = refl;
      host_bytes = part_is text (start + length (protocol t)) (host t.host) _ at_2;
      port = refl;
      branch = named_bytes (codes "branch") text _ t.params _ at_4;
      whole = ap (λ (n : ℕ). part text (span start n)) (sym len) ∙ all;
    }

pub both_say : (text : List ℕ) (v : Via) (t : ViaTree) (other : List ℕ) (w : Via) (u : ViaTree) → Says text v t → Says other w u → host_value t.host ≡ host_value u.host → host t.host ≡ host u.host → port_value t.port ≡ port_value u.port → tree_value (named_tree (codes "branch") t.params) ≡ tree_value (named_tree (codes "branch") u.params) → SameVia text v other w
both_say text v t other w u s r a b c d = record {
  host = s.host ∙ a ∙ sym r.host;
  host_bytes = s.host_bytes ∙ b ∙ sym r.host_bytes;
  port = s.port ∙ c ∙ sym r.port;
  branch = s.branch ∙ d ∙ sym r.branch;
}

-- a value that reads has its tree
pub record Spelled (text : List ℕ) (i : ℕ) (v : Via) : Type 0 where
  pub tree : ViaTree
  pub is : Rattle.sip_fields.specs.ViaGrammar.IsVia tree
  pub text_is : drop i text ≡ via tree
  pub place : via_place i tree ≡ v
  pub says : Says text v tree

pub spelled : (text : List ℕ) (i : ℕ) (v : Via) → i ≤ length text → via_at text i ≡ Some v → Spelled text i v
spelled text i v le e =
    let t = via_takes text i v e in
    let place = same_Some (via_place i t.0) v (sym (via_again text i t.0 le t.2 t.1) ∙ e) in
    record { tree = t.0; is = t.1; text_is = t.2; place = place; says = subst (λ (x : Via). Says text x t.0) place (says text i t.0 t.2) }

pub via_same : (text : List ℕ) (i : ℕ) (other : List ℕ) (j : ℕ) (v w : Via) → Alike text i other j → via_at text i ≡ Some v → via_at other j ≡ Some w → SameVia text v other w × (part text v.whole ≡ part other w.whole)
via_same text i other j v w a e f =
    let t = spelled text i v a.left e in
    let there = via_again other j t.tree a.right (sym a.bytes ∙ t.text_is) t.is in
    let its = same_Some (via_place j t.tree) w (sym there ∙ f) in
    let other_says = subst (λ (x : Via). Says other x t.tree) its (says other j t.tree (sym a.bytes ∙ t.text_is)) in
    (both_say text v t.tree other w t.tree t.says other_says refl refl refl refl, t.says.whole ∙ sym other_says.whole)

-- the tag of From or To
pub tag_says : (text : List ℕ) (i : ℕ) (t : NameAddrTree) → drop i text ≡ name_addr t → bytes_at text (name_addr_place i t).tag ≡ tree_value (named_tree (codes "tag") t.params)
tag_says text i t h =
    let at_1 = behind text i (lws t.lead) _ h in
    let at_2 = behind text _ (address t.address) _ at_1 in
    named_bytes (codes "tag") text _ t.params _ at_2

pub tag_same : (text : List ℕ) (i : ℕ) (other : List ℕ) (j : ℕ) (v w : NameAddr) → Alike text i other j → name_addr_at text i ≡ Some v → name_addr_at other j ≡ Some w → bytes_at text v.tag ≡ bytes_at other w.tag
tag_same text i other j v w a e f =
    let t = name_addr_takes text i v e in
    let there : drop j other ≡ name_addr t.0 = sym a.bytes ∙ t.2 in
    let mine = same_Some (name_addr_place i t.0) v (sym (name_addr_again text i t.0 a.left t.2 t.1) ∙ e) in
    let its = same_Some (name_addr_place j t.0) w (sym (name_addr_again other j t.0 a.right there t.1) ∙ f) in
    let same = tag_says text i t.0 t.2 ∙ sym (tag_says other j t.0 there) in
    subst (λ (x : NameAddr). bytes_at text x.tag ≡ bytes_at other w.tag) mine (subst (λ (x : NameAddr). bytes_at text (name_addr_place i t.0).tag ≡ bytes_at other x.tag) its same)
