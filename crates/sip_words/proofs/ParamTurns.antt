-- The turns of the loop over parameters.
use Rattle.std.proofs.Common.{◌≡◌, ℕ, ◌<◌, ◌≤◌, List, [], ◌∷◌, ◌++◌, length, sym, subst, ap, ◌∙◌, arith, Option, Some, None, option_map}
use Rattle.sip_words.specs.declared.separators.Separator.{Separator}
use Rattle.sip_words.specs.declared.separators.Surroundings.{Surroundings}
use Rattle.sip_words.specs.declared.params.Param.{Param}
use Rattle.sip_words.specs.declared.params.Params.{Params}
use Rattle.sip_words.specs.Spans.{HasParts, KnownHaveParts}
use Rattle.sip_words.specs.Separators.{separator_at}
use Rattle.sip_words.specs.Many.{many}
use Rattle.sip_words.specs.Params.{param_at, next_param, params_at, known, no_params, with_param}
use Rattle.sip_words.proofs.ManyLaws.{with_front, starts, goes_on, fails, ends}
use Rattle.sip_words.proofs.Steps.{separator_past, param_past, advances, param_next, param_wrong, param_done, known_none, known_push, none_have_parts, parts_from}

-- the parameters that were read are these, and those of them that are known are found
pub record Seen (surroundings : Surroundings) (text : List ℕ) (from : ℕ) (found : Params) (ps : List Param) : Type 0 where
  pub low : from ≤ found.end
  pub high : found.end ≤ length text
  pub parts : KnownHaveParts from (length text) found
  pub is : found ≡ known text (ps, found.end)
  pub rest : with_front ps (many (length text) (next_param surroundings text) found.end) ≡ many (length text) (next_param surroundings text) from

pub seen_first : (surroundings : Surroundings) (text : List ℕ) (from : ℕ) (found : Params) → from ≤ length text → found ≡ no_params from → Seen surroundings text from found []
seen_first surroundings text from found le none = subst (λ (p : Params). Seen surroundings text from p []) (sym none) record {
  low = omega arith;
  high = le;
  parts = none_have_parts from (length text) from;
  is = known_none text from;
  rest = starts (many (length text) (next_param surroundings text) from);
}

pub seen_next : (surroundings : Surroundings) (text : List ℕ) (from : ℕ) (found : Params) (ps : List Param) (m : Separator) (p : Param) (more : Params) → Seen surroundings text from found ps → separator_at surroundings 59 text found.end ≡ Some m → param_at surroundings text m ≡ Some p → found.end ≤ m.place → HasParts m.place (length text) p → ((i j : ℕ) → KnownHaveParts i j found → HasParts i j p → KnownHaveParts i j more) → more ≡ with_param text found p → Seen surroundings text from more (ps ++ p ∷ [])
seen_next surroundings text from found ps m p more seen e h behind parts keeps added = subst (λ (q : Params). Seen surroundings text from q (ps ++ p ∷ [])) (sym added) record {
  low = omega (arith, seen.low, past, separator.0);
  high = parts.whole.high;
  parts = subst (λ (q : Params). KnownHaveParts from (length text) q) added (keeps from (length text) seen.parts (parts_from from m.place (length text) p (omega (arith, seen.low)) parts));
  is = ap (λ (q : Params). with_param text q p) seen.is ∙ sym (known_push text ps found.end p);
  rest = goes_on (length text) (next_param surroundings text) from found.end p.whole.to ps p (advances surroundings text) (param_next surroundings text found.end m p e h) seen.rest;
}
  where
    past : m.end < p.whole.to
    past = param_past surroundings text m p h

    separator : (found.end < m.end) × (found.end < length text)
    separator = separator_past surroundings 59 text found.end m e

pub seen_wrong : (surroundings : Surroundings) (text : List ℕ) (from : ℕ) (found : Params) (ps : List Param) (m : Separator) → Seen surroundings text from found ps → separator_at surroundings 59 text found.end ≡ Some m → param_at surroundings text m ≡ None → params_at surroundings text from ≡ None
unfolding params_at
seen_wrong surroundings text from found ps m seen e h = fails (length text) (next_param surroundings text) from found.end ps (param_wrong surroundings text found.end m e h) seen.rest

pub seen_last : (surroundings : Surroundings) (text : List ℕ) (from : ℕ) (found : Params) (ps : List Param) → Seen surroundings text from found ps → separator_at surroundings 59 text found.end ≡ None → Some found ≡ option_map (known text) (params_at surroundings text from)
unfolding params_at
seen_last surroundings text from found ps seen e =
    let all = ends (length text) (next_param surroundings text) from found.end ps (param_done surroundings text found.end e) seen.rest in
    ap (λ (q : Params). Some q) seen.is ∙ ap (λ (r : Option (List Param × ℕ)). option_map (known text) r) (sym all)
