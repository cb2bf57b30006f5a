-- What is read as Via is spelled by the grammar.
use Rattle.std.proofs.Common.{◌≡◌, ℕ, ◌+◌, List, [], ◌∷◌, ◌++◌, length, drop, subst, ap, ◌∙◌, inl, inr, Option, Some, None, append_assoc}
use Rattle.std.specs.Prelude.{slice_range, codes, IfSome}
use Rattle.std.specs.List.{list_all}
use Rattle.std.specs.Str.{str_eq_ignore_ascii_case}
use Rattle.std.proofs.lemmas.Bool.{cases_Bool}
use Rattle.std.proofs.lemmas.Option.{cond_some, none-some}
use Rattle.sip_words.specs.declared.Span.{Span}
use Rattle.sip_words.specs.declared.bytes.Class.TheVariants as class
use Rattle.sip_words.specs.declared.separators.Surroundings.TheVariants.{Field}
use Rattle.sip_words.specs.declared.params.Param.{Param}
use Rattle.sip_words.specs.Bytes.{has}
use Rattle.sip_words.specs.Words.{word_at, word_end, lws_end}
use Rattle.sip_words.specs.Separators.{separator_at}
use Rattle.sip_words.specs.Params.{params_at, named}
use Rattle.sip_words.specs.Grammar.{lws, ValueTree, value, ParamTree, assigned, param, value_place, params, named_tree, named_place}
use Rattle.sip_words.proofs.Steps.{bind_some}
use Rattle.sip_words.proofs.Pieces.{behind, part_is}
use Rattle.sip_words.proofs.Again.{named_is}
use Rattle.sip_words.proofs.Takes.{Takes, then, lws_takes, separator_takes, word_takes, word_at_takes, gap_takes, params_takes}
use Rattle.sip_fields.specs.declared.via.Via.{Via}
use Rattle.sip_fields.specs.Host.{host_at, port_at}
use Rattle.sip_fields.specs.Tail.{next_at}
use Rattle.sip_fields.specs.Via.{protocol_at, token_value, branch_of, via_at}
use Rattle.sip_fields.specs.Parts.{host, port, tail}
use Rattle.sip_fields.specs.ViaGrammar.{ViaTree, protocol, via, HasToken, IsVia}
use Rattle.sip_fields.proofs.Hosts.{host_takes}
use Rattle.sip_fields.proofs.Ports.{port_takes, next_takes}
use Rattle.sip_fields.proofs.ViaAgain.{value_here}

has_token : (text : List ℕ) (i : ℕ) (v : Option ValueTree) (rest : List ℕ) (b : Option Span) → drop i text ≡ assigned v ++ rest → token_value text (value_place i v) ≡ Some b → HasToken v
has_token text i None rest b h k = absurd (none-some b k)
has_token text i (Some v) rest b h k =
    let inside : drop (i + 1) text ≡ value v ++ rest = behind text i (61 ∷ []) _ h in
    let c = cond_some (list_all (has class.Token) (slice_range text (i + 1) (i + 1 + length (value v)))) _ b k in
    rw (part_is text (i + 1) (value v) rest inside) at c.0

branch_takes : (text : List ℕ) (i : ℕ) (ps : List ParamTree) (rest : List ℕ) (b : Option Span) → drop i text ≡ params ps ++ rest → branch_of text (named_place (codes "branch") i ps) ≡ Some b → IfSome (named_tree (codes "branch") ps) (λ p. HasToken p.value)
branch_takes text i [] rest b h k = tt
branch_takes text i (p ∷ ps) rest b h k =
    let whole = h ∙ append_assoc (param p) (params ps) rest in
    let value_at = value_here text i p _ whole in
    let there : drop (i + length (param p)) text ≡ params ps ++ rest = behind text i (param p) _ whole in
    elim (cases_Bool (str_eq_ignore_ascii_case p.name (codes "branch"))) [
      | inl t ↦ rw t (has_token text _ p.value _ b value_at (rw t at k))
      | inr f ↦ rw f (branch_takes text (i + length (param p)) ps rest b there (rw f at k))
    ]

pub via_takes : (text : List ℕ) (i : ℕ) (v : Via) → via_at text i ≡ Some v → (t : ViaTree) × IsVia t × (drop i text ≡ via t)
unfolding via_at protocol_at
via_takes text i v h =
    let lead = lws_takes text i in
    let at = bind_some (protocol_at text (lws_end text i)) _ v h in
    let sip = bind_some (word_at (codes "SIP") text (lws_end text i)) _ at.0 at.1 in
    let slash = bind_some (separator_at Field 47 text sip.0) _ at.0 sip.2 in
    let version = bind_some (word_at (codes "2.0") text slash.0.end) _ at.0 slash.2 in
    let second = bind_some (separator_at Field 47 text version.0) _ at.0 version.2 in
    let transport = bind_some (word_end class.Token text second.0.end) _ at.0 second.2 in
    let host_of = bind_some (host_at text at.0) _ v at.2 in
    let port_of = bind_some (port_at Field text host_of.0.1) _ v host_of.2 in
    let ps = bind_some (params_at Field text port_of.0.1) _ v port_of.2 in
    let branch = bind_some (branch_of text (named (codes "branch") text ps.0.0)) _ v ps.2 in
    let next = bind_some (next_at text ps.0.1) _ v branch.2 in
    let a = word_at_takes (codes "SIP") text _ sip.0 sip.1 in
    let b = separator_takes Field 47 text sip.0 slash.0 slash.1 in
    let c = word_at_takes (codes "2.0") text slash.0.end version.0 version.1 in
    let d = separator_takes Field 47 text version.0 second.0 second.1 in
    let e = word_takes class.Token text second.0.end transport.0 transport.1 in
    let f = gap_takes text transport.0 at.0 transport.2 in
    let w = host_takes text at.0 host_of.0 host_of.1 in
    let p = port_takes Field text host_of.0.1 port_of.0 port_of.1 in
    let q = params_takes Field text port_of.0.1 ps.0 ps.1 in
    let r = next_takes text ps.0.1 next.0 next.1 in
    let after : drop port_of.0.1 text ≡ params q.trees ++ tail r.0 = q.takes.whole ∙ ap (λ xs. params q.trees ++ xs) r.1 in
    let the_branch = ap (λ xs. named (codes "branch") text xs) q.places ∙ named_is (codes "branch") text port_of.0.1 q.trees (tail r.0) after in
    let tree : ViaTree = record { lead = lead.0; sip = a.0; slash = b.tree; version = c.0; second_slash = d.tree; transport = e.0; gap = f.0; host = w.0; port = p.0; params = q.trees; tail = r.0 } in
    let front : Takes text (lws_end text i) at.0 (protocol tree) = then a.1 (then b.takes (then c.1 (then d.takes (then e.1 f.1)))) in
    let is : IsVia tree = record { sip = a.2; version = c.2; transport = e.2; gap = f.2; host = w.2; port = p.2; params = q.are; branch = branch_takes text port_of.0.1 q.trees (tail r.0) branch.0 after (let P : Option Param → Type 0 = λ o. branch_of text o ≡ Some branch.0 in subst P the_branch branch.1); tail = r.2 } in
    let whole : drop i text ≡ via tree = lead.1.whole ∙ ap (λ xs. lws lead.0 ++ xs) (front.whole ∙ ap (λ xs. protocol tree ++ xs) (w.1.whole ∙ ap (λ xs. host w.0 ++ xs) (p.1.whole ∙ ap (λ xs. port p.0 ++ xs) after))) in
    (tree, is, whole)
