-- The items of a script: what is derived is read.
use Rattle.std.specs.Prelude.{ℕ, ◌<◌, Bool, true, false, List, [], ◌∷◌, ◌++◌, length, Option, Some, None, codes}
use Rattle.std.proofs.Common.{◌≡◌, refl, sym, ap, subst, ◌∙◌, append_assoc, append-nil, arith}
use Rattle.pv_values.specs.declared.refusal.Place.{Place}
use Rattle.cfg_tree.specs.declared.token.Token.{Token}
use Rattle.cfg_tree.specs.declared.token.Lexeme.TheVariants as lexeme
use Rattle.cfg_tree.specs.declared.token.Keyword.TheVariants as word_is
use Rattle.cfg_tree.specs.declared.token.Mark.TheVariants as mark
use Rattle.cfg_tree.specs.declared.raw.Word.{Word}
use Rattle.cfg_tree.specs.declared.raw.RouteKind.{RouteKind}
use Rattle.cfg_tree.specs.declared.raw.RawStmt.{RawStmt}
use Rattle.cfg_tree.specs.declared.raw.Setting.{Setting}
use Rattle.cfg_tree.specs.declared.raw.RawItem.{RawItem}
use Rattle.cfg_tree.specs.declared.raw.RawItem.TheVariants as item
use Rattle.cfg_tree.specs.Tokens.{IsA, IsMark, IsKeyword, whole}
use Rattle.cfg_tree.specs.Grammar as tree
use Rattle.cfg_tree.specs.Grammar.{EndIs, SettingIs, ValueIs, KindIs, NamedKindIs, HeadIs, StmtsAre, ItemIs, Derives}
use Rattle.cfg_parse.specs.Reader.{and_then, pure, first, passed, after, is_mark, sees_mark}
use Rattle.cfg_parse.specs.Stmts.{ends_list}
use Rattle.cfg_parse.specs.declared.script.BlockKinds.{BlockKinds}
use Rattle.cfg_parse.specs.Script.{setting_in, setting_token, setting_of, value_of, module_of, module_parameter, parameter, route_kinds, kinds_of, alone_by, named_by, head_by, head_of, block, route_in, route_block, named_item, item_by, read_item, next_item, items}
use Rattle.cfg_parse.proofs.law.Steps.{read_then, mark_again, keyword_again, sees, unseen, eats, leaves, by_first}
use Rattle.cfg_parse.proofs.law.Several.{Several, none, more, many_again}
use Rattle.cfg_parse.proofs.law.OneToken.{one_again, string_is, name_is, block_name_is, string_again, name_again, block_name_again}
use Rattle.cfg_parse.proofs.law.Operators.{at_first}
use Rattle.cfg_parse.proofs.law.Places.{placed}
use Rattle.cfg_parse.proofs.law.StmtAgain.{body_again}

-- ---- ends and values

end_again : (us rest : List Token) → EndIs us → sees_mark mark.Semicolon rest ≡ false → after (sees_mark mark.Semicolon (us ++ rest)) (us ++ rest) ≡ rest
unfolding passed
end_again _ rest tree.no_end f = ap (λ (b : Bool). after b rest) f
end_again _ rest (tree.with_end t h) f = ap (λ (b : Bool). after b (t ∷ rest)) (sees mark.Semicolon t rest h)

setting_again : (t : Token) (ts : List Token) (v : Setting) → SettingIs t v → setting_of (t ∷ ts) ≡ Some (v, ts)
unfolding setting_of
setting_again _ ts _ (tree.number_set t n h) = one_again setting_in t ts h refl
setting_again _ ts _ (tree.string_set t s h) = one_again setting_in t ts h refl
setting_again _ ts _ (tree.name_set t s h) = one_again setting_in t ts h refl
setting_again _ ts _ (tree.listen_set t l h) = one_again setting_in t ts h refl

value_again : (t : Token) (ts : List Token) (v : Setting) → ValueIs t v → value_of (t ∷ ts) ≡ Some (v, ts)
unfolding value_of
value_again _ ts _ (tree.number_value t n h) = one_again setting_token t ts h refl
value_again _ ts _ (tree.string_value t s h) = one_again setting_token t ts h refl

-- ---- blocks

-- the token begins a block of one of these kinds, if no `=` follows
abbrev pub BeginsBlock : Token → BlockKinds → Type 0
BeginsBlock t kinds = (ts : List Token) → sees_mark mark.Assign ts ≡ false → read_item (t ∷ ts) ≡ block (t ∷ ts) t.at kinds ts

route_begins : (t : Token) → IsKeyword word_is.Route t → BeginsBlock t route_kinds
unfolding read_item route_block
route_begins t h = λ ts f. by_first item_by t ts h (read_then _ (one_again route_in t ts h refl) refl)

name_begins : (t : Token) (s : List ℕ) → IsA (lexeme.Name s) t → BeginsBlock t (kinds_of s)
unfolding read_item named_item
name_begins t s h = λ ts f. by_first item_by t ts h (read_then _ (name_again t ts _ (name_is t s h)) (leaves _ _ ts f refl))

kind_begins : (t : Token) (kind : RouteKind) → KindIs t kind → (kinds : BlockKinds) × BeginsBlock t kinds × (kinds.alone ≡ Some kind)
unfolding kinds_of
kind_begins _ _ (tree.request_word t h) = (kinds_of (codes "request_route"), name_begins t (codes "request_route") h, refl)
kind_begins _ _ (tree.route_word t h) = (route_kinds, route_begins t h, refl)
kind_begins _ _ (tree.reply_word t h) = (kinds_of (codes "reply_route"), name_begins t (codes "reply_route") h, refl)
kind_begins _ _ (tree.onreply_word t h) = (kinds_of (codes "onreply_route"), name_begins t (codes "onreply_route") h, refl)

named_kind_begins : (t : Token) (kind : RouteKind) → NamedKindIs t kind → (kinds : BlockKinds) × BeginsBlock t kinds × (kinds.named ≡ Some kind)
unfolding kinds_of
named_kind_begins _ _ (tree.named_route t h) = (route_kinds, route_begins t h, refl)
named_kind_begins _ _ (tree.named_branch t h) = (kinds_of (codes "branch_route"), name_begins t (codes "branch_route") h, refl)
named_kind_begins _ _ (tree.named_failure t h) = (kinds_of (codes "failure_route"), name_begins t (codes "failure_route") h, refl)
named_kind_begins _ _ (tree.named_onreply t h) = (kinds_of (codes "onreply_route"), name_begins t (codes "onreply_route") h, refl)
named_kind_begins _ _ (tree.named_event t h) = (kinds_of (codes "event_route"), name_begins t (codes "event_route") h, refl)

-- the head is read after its first token, and then the braces
behind_head : (start ts us : List Token) (b d : Token) (kinds : BlockKinds) (kind : RouteKind) (name : Option Word) (at : Place) (ss : List RawStmt) (all rest : List Token) → all ++ rest ≡ start → head_of kinds ts ≡ Some ((kind, name), b ∷ (us ++ d ∷ rest)) → IsMark mark.OpenCurly b → StmtsAre 64 false us ss → IsMark mark.CloseCurly d → block start at kinds ts ≡ Some (item.Block (record { kind = kind; name = name; kind_at = at; at = whole all; body = ss }), rest)
unfolding block
behind_head start ts us b d kinds kind name at ss all rest w e h s k =
    read_then _ e
    (read_then _ (mark_again mark.OpenCurly b (us ++ d ∷ rest) h)
    (read_then _ (body_again us ss (d ∷ rest) s (at_first (λ o. ends_list o ≡ true) d rest k refl))
    (read_then _ (mark_again mark.CloseCurly d rest k)
    (ap (λ (place : Place). Some (item.Block (record { kind = kind; name = name; kind_at = at; at = place; body = ss }), rest)) (placed start all rest (sym w))))))

head_alone : (kinds : BlockKinds) (kind : RouteKind) (b : Token) (ts : List Token) → kinds.alone ≡ Some kind → IsMark mark.OpenCurly b → head_of kinds (b ∷ ts) ≡ Some ((kind, None), b ∷ ts)
unfolding head_of
head_alone kinds kind b ts e h = by_first (head_by kinds) b ts h (ap (λ (o : Option RouteKind). alone_by o (b ∷ ts)) e)

head_named : (kinds : BlockKinds) (kind : RouteKind) (left n right : Token) (s : List ℕ) (ts : List Token) → kinds.named ≡ Some kind → IsMark mark.OpenSquare left → IsA (lexeme.BlockName s) n → IsMark mark.CloseSquare right → head_of kinds (left ∷ n ∷ right ∷ ts) ≡ Some ((kind, Some (record { text = s; at = n.at })), ts)
unfolding head_of
head_named kinds kind left n right s ts e h i k = by_first (head_by kinds) left (n ∷ right ∷ ts) h
    (ap (λ (o : Option RouteKind). named_by o (left ∷ n ∷ right ∷ ts)) e ∙ read_then _ (mark_again mark.OpenSquare left (n ∷ right ∷ ts) h) (read_then _ (block_name_again n (right ∷ ts) _ (block_name_is n s i)) (read_then _ (mark_again mark.CloseSquare right ts k) refl)))

block_again : (all hs ts : List Token) (b d : Token) (kind : RouteKind) (name : Option Word) (at : Place) (ss : List RawStmt) (rest : List Token) → all ≡ hs ++ b ∷ ts ++ d ∷ [] → HeadIs hs kind name at → IsMark mark.OpenCurly b → StmtsAre 64 false ts ss → IsMark mark.CloseCurly d → read_item (all ++ rest) ≡ Some (item.Block (record { kind = kind; name = name; kind_at = at; at = whole all; body = ss }), rest)
block_again all _ ts b d _ _ _ ss rest p (tree.unnamed t kind i) h s k =
    let w : all ++ rest ≡ t ∷ b ∷ (ts ++ d ∷ rest) = ap (λ vs. vs ++ rest) p ∙ ap (λ vs. t ∷ b ∷ vs) (append_assoc ts (d ∷ []) rest) in
    let g = kind_begins t kind i in
    ap read_item w ∙ g.1 (b ∷ (ts ++ d ∷ rest)) (unseen mark.Assign b (ts ++ d ∷ rest) h refl)
    ∙ behind_head (t ∷ b ∷ (ts ++ d ∷ rest)) (b ∷ (ts ++ d ∷ rest)) ts b d g.0 kind None t.at ss all rest w (head_alone g.0 kind b (ts ++ d ∷ rest) g.2 h) h s k
block_again all _ ts b d _ _ _ ss rest p (tree.named t left n right kind name i j l m) h s k =
    let w : all ++ rest ≡ t ∷ left ∷ n ∷ right ∷ b ∷ (ts ++ d ∷ rest) = ap (λ vs. vs ++ rest) p ∙ ap (λ vs. t ∷ left ∷ n ∷ right ∷ b ∷ vs) (append_assoc ts (d ∷ []) rest) in
    let g = named_kind_begins t kind i in
    ap read_item w ∙ g.1 (left ∷ n ∷ right ∷ b ∷ (ts ++ d ∷ rest)) (unseen mark.Assign left (n ∷ right ∷ b ∷ (ts ++ d ∷ rest)) j refl)
    ∙ behind_head (t ∷ left ∷ n ∷ right ∷ b ∷ (ts ++ d ∷ rest)) (left ∷ n ∷ right ∷ b ∷ (ts ++ d ∷ rest)) ts b d g.0 kind (Some (record { text = name; at = n.at })) t.at ss all rest w (head_named g.0 kind left n right name (b ∷ (ts ++ d ∷ rest)) g.2 j l m) h s k

-- ---- items

item_again : (us : List Token) (i : RawItem) (rest : List Token) → ItemIs us i → sees_mark mark.Semicolon rest ≡ false → read_item (us ++ rest) ≡ Some (i, rest)
unfolding read_item named_item parameter module_of module_parameter
item_again _ _ rest (tree.parameter n a v us name value h k d e) f =
    by_first item_by n (a ∷ v ∷ us ++ rest) h
    (read_then _ (name_again n (a ∷ v ∷ us ++ rest) _ (name_is n name h))
    (eats _ _ a (v ∷ us ++ rest) (sees mark.Assign a (v ∷ us ++ rest) k)
    (read_then _ (setting_again v (us ++ rest) value d)
    (ap (λ (ts : List Token). Some (item.Parameter (record { text = name; at = n.at }) value, ts)) (end_again us rest e f)))))
item_again _ _ rest (tree.module_of k t us s h i e) f =
    by_first item_by k (t ∷ us ++ rest) h
    (read_then _ (keyword_again word_is.Loadmodule k (t ∷ us ++ rest) h)
    (read_then _ (string_again t (us ++ rest) _ (string_is t s i))
    (ap (λ (ts : List Token). Some (item.Module (record { text = s; at = t.at }), ts)) (end_again us rest e f))))
item_again _ _ rest (tree.module_parameter k o m c n d v e us of name value h1 h2 h3 h4 h5 h6 h7 h8 h9) f =
    by_first item_by k (o ∷ m ∷ c ∷ n ∷ d ∷ v ∷ e ∷ us ++ rest) h1
    (read_then _ (keyword_again word_is.Modparam k (o ∷ m ∷ c ∷ n ∷ d ∷ v ∷ e ∷ us ++ rest) h1)
    (read_then _ (mark_again mark.OpenRound o (m ∷ c ∷ n ∷ d ∷ v ∷ e ∷ us ++ rest) h2)
    (read_then _ (string_again m (c ∷ n ∷ d ∷ v ∷ e ∷ us ++ rest) _ (string_is m of h3))
    (read_then _ (mark_again mark.Comma c (n ∷ d ∷ v ∷ e ∷ us ++ rest) h4)
    (read_then _ (string_again n (d ∷ v ∷ e ∷ us ++ rest) _ (string_is n name h5))
    (read_then _ (mark_again mark.Comma d (v ∷ e ∷ us ++ rest) h6)
    (read_then _ (value_again v (e ∷ us ++ rest) value h7)
    (read_then _ (mark_again mark.CloseRound e (us ++ rest) h8)
    (ap (λ (ts : List Token). Some (item.ModuleParameter (record { text = of; at = m.at }) (record { text = name; at = n.at }) value, ts)) (end_again us rest h9 f))))))))))
item_again _ _ rest (tree.block all hs ts b d kind name at ss p h k s c) f = block_again all hs ts b d kind name at ss rest p h k s c

-- an item begins with a token that isn't `;`
data ItemBegins : List Token → Type 0 where
  item_begins : (t : Token) (ts : List Token) → is_mark mark.Semicolon t.lexeme ≡ false → ItemBegins (t ∷ ts)

kind_word : (t : Token) (ts : List Token) (kind : RouteKind) → KindIs t kind → ItemBegins (t ∷ ts)
kind_word _ ts _ (tree.request_word t h) = item_begins t ts (ap (is_mark mark.Semicolon) h)
kind_word _ ts _ (tree.route_word t h) = item_begins t ts (ap (is_mark mark.Semicolon) h)
kind_word _ ts _ (tree.reply_word t h) = item_begins t ts (ap (is_mark mark.Semicolon) h)
kind_word _ ts _ (tree.onreply_word t h) = item_begins t ts (ap (is_mark mark.Semicolon) h)

named_kind_word : (t : Token) (ts : List Token) (kind : RouteKind) → NamedKindIs t kind → ItemBegins (t ∷ ts)
named_kind_word _ ts _ (tree.named_route t h) = item_begins t ts (ap (is_mark mark.Semicolon) h)
named_kind_word _ ts _ (tree.named_branch t h) = item_begins t ts (ap (is_mark mark.Semicolon) h)
named_kind_word _ ts _ (tree.named_failure t h) = item_begins t ts (ap (is_mark mark.Semicolon) h)
named_kind_word _ ts _ (tree.named_onreply t h) = item_begins t ts (ap (is_mark mark.Semicolon) h)
named_kind_word _ ts _ (tree.named_event t h) = item_begins t ts (ap (is_mark mark.Semicolon) h)

head_begins : (hs ts : List Token) (kind : RouteKind) (name : Option Word) (at : Place) → HeadIs hs kind name at → ItemBegins (hs ++ ts)
head_begins _ ts _ _ _ (tree.unnamed t kind i) = kind_word t ts kind i
head_begins _ ts _ _ _ (tree.named t left n right kind name i j l m) = named_kind_word t (left ∷ n ∷ right ∷ ts) kind i

begins : (us : List Token) (i : RawItem) → ItemIs us i → ItemBegins us
begins _ _ (tree.parameter n a v us name value h k d e) = item_begins n (a ∷ v ∷ us) (ap (is_mark mark.Semicolon) h)
begins _ _ (tree.module_of k t us s h i e) = item_begins k (t ∷ us) (ap (is_mark mark.Semicolon) h)
begins _ _ (tree.module_parameter k o m c n d v e us of name value h1 h2 h3 h4 h5 h6 h7 h8 h9) = item_begins k _ (ap (is_mark mark.Semicolon) h1)
begins _ _ (tree.block all hs ts b d kind name at ss p h k s c) = subst ItemBegins (sym (p ∙ append_assoc hs (b ∷ ts) (d ∷ []))) (head_begins hs (b ∷ ts ++ d ∷ []) kind name at h)

item_starts : (us : List Token) (i : RawItem) (rest : List Token) → ItemIs us i → sees_mark mark.Semicolon (us ++ rest) ≡ false
unfolding sees_mark first
item_starts us i rest d = by us (begins us i d)
  where
    by : (us : List Token) → ItemBegins us → sees_mark mark.Semicolon (us ++ rest) ≡ false
    by _ (item_begins t ts h) = h

item_some : (us : List Token) (i : RawItem) → ItemIs us i → 0 < length us
item_some us i d = by us (begins us i d)
  where
    by : (us : List Token) → ItemBegins us → 0 < length us
    by _ (item_begins t ts h) = omega arith

next_of : (us rest : List Token) → ItemBegins us → next_item (us ++ rest) ≡ and_then (read_item (us ++ rest)) (λ i. pure (Some i))
unfolding next_item first
next_of _ rest (item_begins t ts h) = refl

next_again : (us : List Token) (i : RawItem) (rest : List Token) → ItemIs us i → sees_mark mark.Semicolon rest ≡ false → next_item (us ++ rest) ≡ Some (Some i, rest)
next_again us i rest d f = next_of us rest (begins us i d) ∙ read_then _ (item_again us i rest d f) refl

-- ---- the script

several_items : (us : List Token) (xs : List RawItem) → Derives us xs → Several ItemIs us xs
several_items _ _ tree.nothing = none
several_items _ _ (tree.one_item ts us i xs d r) = more ts us i xs d (several_items us xs r)

pub items_again : (us : List Token) (xs : List RawItem) → Derives us xs → items us ≡ Some (xs, [])
unfolding items next_item sees_mark first
items_again us xs d = ap items (sym (append-nil us)) ∙ many_again ItemIs next_item (λ ts. sees_mark mark.Semicolon ts ≡ false) next_again item_starts item_some us xs [] (several_items us xs d) refl refl []
