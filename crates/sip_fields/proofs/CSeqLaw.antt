-- CSeq: what the grammar spells is read again, and what is read is spelled by the grammar.
use Rattle.std.proofs.Common.{◌≡◌, ℕ, ◌<◌, ◌≤◌, ◌^◌, true, List, [], ◌++◌, length, drop, ◌==◌, refl, subst, ap, ◌∙◌, arith, Some}
use Rattle.std.specs.Prelude.{nat_lt}
use Rattle.std.specs.Str.Parse.{digits_value}
use Rattle.std.proofs.lemmas.Bool.{eq-eqb, eqb-true, lt-ltb, ltb-true}
use Rattle.std.proofs.lemmas.List.{append-nil, drop_all}
use Rattle.std.proofs.lemmas.Option.{cond_some}
use Rattle.sip_words.specs.declared.bytes.Class.TheVariants as class
use Rattle.sip_words.specs.declared.separators.Surroundings.TheVariants.{Field}
use Rattle.sip_words.specs.Words.{word_end, lws_end, gap_end}
use Rattle.sip_words.specs.Numbers.{number_at}
use Rattle.sip_words.specs.Grammar.{lws}
use Rattle.sip_words.proofs.Steps.{bind_some}
use Rattle.sip_words.proofs.Pieces.{behind, within, word_again, lws_again, gap_again, number_again, token_solid, digits_solid}
use Rattle.sip_words.proofs.Again.{stops_token, stops_digit}
use Rattle.sip_words.proofs.Takes.{lws_takes, word_takes, gap_takes, number_takes}
use Rattle.sip_fields.specs.declared.cseq.CSeq.{CSeq}
use Rattle.sip_fields.specs.CSeq.{cseq_at}
use Rattle.sip_fields.specs.Parts.{Last}
use Rattle.sip_fields.specs.CSeqGrammar.{CSeqTree, cseq, IsCSeq, cseq_place}
use Rattle.sip_fields.proofs.Runs.{stops_gap, lws_last}
use Rattle.sip_fields.proofs.Ports.{stops_tail, cond_inner}

pub cseq_again : (text : List ℕ) (i : ℕ) (t : CSeqTree) → i ≤ length text → drop i text ≡ cseq t → IsCSeq t → cseq_at text i ≡ Some (cseq_place i t)
unfolding cseq_at
cseq_again text i t le h is =
    let digits = is.digits in
    let method = is.method in
    let start = lws_again text i t.lead _ h (digits_solid t.digits _ digits) in
    let at_1 = behind text i (lws t.lead) _ h in
    let number = number_again 10 text _ t.digits _ at_1 digits (stops_digit Field _ (stops_gap t.gap _ is.gap)) is.few in
    let below : nat_lt (digits_value 10 t.digits) (2 ^ 31) ≡ true = lt-ltb _ _ is.below in
    let at_2 = behind text _ t.digits _ at_1 in
    let gap = gap_again text _ t.gap _ at_2 (token_solid t.method _ method) is.gap in
    let at_3 = behind text _ (lws t.gap) _ at_2 in
    let word = word_again class.Token text _ t.method _ at_3 method (stops_token Field _ (stops_tail (Last t.trail))) in
    let at_4 = behind text _ t.method _ at_3 in
    let in_1 = within text i (lws t.lead) _ le h in
    let in_2 = within text _ t.digits _ in_1 at_1 in
    let in_3 = within text _ (lws t.gap) _ in_2 at_2 in
    let in_4 = within text _ t.method _ in_3 at_3 in
    let last = lws_last text _ t.trail in_4 at_4 in
    let same : (length text == length text) ≡ true = eq-eqb _ _ refl in
    rw (start, number, below, gap, word, last, same) refl

pub cseq_takes : (text : List ℕ) (i : ℕ) (c : CSeq) → cseq_at text i ≡ Some c → (t : CSeqTree) × IsCSeq t × (drop i text ≡ cseq t)
unfolding cseq_at
cseq_takes text i c h =
    let lead = lws_takes text i in
    let number = bind_some (number_at 10 text (lws_end text i)) _ c h in
    let below = cond_inner (nat_lt number.0.0 (2 ^ 31)) _ c number.2 in
    let gap = bind_some (gap_end text number.0.1) _ c below.1 in
    let word = bind_some (word_end class.Token text gap.0) _ c gap.2 in
    let last = cond_some (lws_end text word.0 == length text) _ c word.2 in
    let a = number_takes 10 text (lws_end text i) number.0 number.1 in
    let b = gap_takes text number.0.1 gap.0 gap.1 in
    let d = word_takes class.Token text gap.0 word.0 word.1 in
    let e = lws_takes text word.0 in
    let end = eqb-true (lws_end text word.0) (length text) last.0 in
    let nothing : drop (lws_end text word.0) text ≡ [] = drop_all (lws_end text word.0) text (omega arith) in
    let is_below = ltb-true number.0.0 (2 ^ 31) below.0 in
    let below_it : digits_value 10 a.0 < 2 ^ 31 = subst (λ n. n < 2 ^ 31) a.4 is_below in
    let tree : CSeqTree = record { lead = lead.0; digits = a.0; gap = b.0; method = d.0; trail = e.0 } in
    let is : IsCSeq tree = record { digits = a.2; few = a.3; below = below_it; gap = b.2; method = d.2 } in
    let trail : drop word.0 text ≡ lws e.0 = e.1.whole ∙ ap (λ xs. lws e.0 ++ xs) nothing ∙ append-nil (lws e.0) in
    let whole : drop i text ≡ cseq tree = lead.1.whole ∙ ap (λ xs. lws lead.0 ++ xs) (a.1.whole ∙ ap (λ xs. a.0 ++ xs) (b.1.whole ∙ ap (λ xs. lws b.0 ++ xs) (d.1.whole ∙ ap (λ xs. d.0 ++ xs) trail))) in
    (tree, is, whole)
