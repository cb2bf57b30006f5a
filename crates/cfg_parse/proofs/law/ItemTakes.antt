-- The items of a script: what is read is derived.
use Rattle.std.specs.Prelude.{pos, Bool, true, false, List, [], ◌∷◌, ◌++◌, Option, Some, None, IfSome}
use Rattle.std.proofs.Common.{◌≡◌, refl, sym, ap, subst, ◌∙◌, append_assoc}
use Rattle.pv_values.specs.declared.refusal.Place.{Place}
use Rattle.cfg_tree.specs.declared.token.Token.{Token}
use Rattle.cfg_tree.specs.declared.token.Lexeme.{Lexeme}
use Rattle.cfg_tree.specs.declared.token.Lexeme.TheVariants as lexeme
use Rattle.cfg_tree.specs.declared.token.Keyword.TheVariants as word_is
use Rattle.cfg_tree.specs.declared.token.Mark.TheVariants as mark
use Rattle.cfg_tree.specs.declared.raw.Word.{Word}
use Rattle.cfg_tree.specs.declared.raw.RouteKind.{RouteKind}
use Rattle.cfg_tree.specs.declared.raw.RawStmt.{RawStmt}
use Rattle.cfg_tree.specs.declared.raw.Setting.{Setting}
use Rattle.cfg_tree.specs.declared.raw.RawItem.{RawItem}
use Rattle.cfg_tree.specs.declared.raw.RawItem.TheVariants as item
use Rattle.cfg_tree.specs.Tokens.{IsMark, IsKeyword}
use Rattle.cfg_tree.specs.Grammar as tree
use Rattle.cfg_tree.specs.Grammar.{EndIs, SettingIs, ValueIs, KindIs, NamedKindIs, HeadIs, StmtsAre, ItemIs, Derives}
use Rattle.cfg_parse.specs.Reader.{first, passed, after, is_mark, sees_mark, place_since}
use Rattle.cfg_parse.specs.declared.script.BlockKinds.{BlockKinds}
use Rattle.cfg_parse.specs.Script.{setting_in, setting_token, setting_of, value_of, module_of, module_parameter, parameter, route_kinds, kinds_of, alone_by, named_by, head_by, head_of, block, route_in, route_block, named_item, item_by, read_item, next_item, items}
use Rattle.cfg_parse.proofs.law.Steps.{OnRead, nothing, found, and_so, weaker, Front, Takes, mark_is, mark_takes, keyword_takes, eaten}
use Rattle.cfg_parse.proofs.law.Several.{Several, none, more, OnStep, many_takes}
use Rattle.cfg_parse.proofs.law.OneToken.{one_takes, StringIs, string_is, NameIs, name_is, BlockNameIs, block_name_is, string_takes, name_takes, block_name_takes}
use Rattle.cfg_parse.proofs.law.Places.{placed}
use Rattle.cfg_parse.proofs.law.StmtTakes.{body_takes}
use Rattle.cfg_parse.proofs.law.Kinds.{KindsFor, route_kinds_for, name_kinds_for}

-- ---- ends and values

end_taken : (ts : List Token) → (us : List Token) × (ts ≡ us ++ after (sees_mark mark.Semicolon ts) ts) × EndIs us
unfolding sees_mark first passed
end_taken [] = ([], refl, tree.no_end)
end_taken (t ∷ ts) = by (is_mark mark.Semicolon t.lexeme) refl
  where
    by : (b : Bool) → is_mark mark.Semicolon t.lexeme ≡ b → (us : List Token) × (t ∷ ts ≡ us ++ after b (t ∷ ts)) × EndIs us
    by true h = (t ∷ [], refl, tree.with_end t (mark_is mark.Semicolon t.lexeme h))
    by false h = ([], refl, tree.no_end)

setting_read : (x : Lexeme) (at : Place) → IfSome (setting_in x at) (λ v. SettingIs (record { lexeme = x; at = at }) v)
setting_read (lexeme.Number (pos n)) at = tree.number_set (record { lexeme = lexeme.Number (pos n); at = at }) n refl
setting_read (lexeme.String s) at = tree.string_set (record { lexeme = lexeme.String s; at = at }) s refl
setting_read (lexeme.Name s) at = tree.name_set (record { lexeme = lexeme.Name s; at = at }) s refl
setting_read (lexeme.Listen l) at = tree.listen_set (record { lexeme = lexeme.Listen l; at = at }) l refl
setting_read _ at = tt

value_read : (x : Lexeme) (at : Place) → IfSome (setting_token x at) (λ v. ValueIs (record { lexeme = x; at = at }) v)
value_read (lexeme.Number (pos n)) at = tree.number_value (record { lexeme = lexeme.Number (pos n); at = at }) n refl
value_read (lexeme.String s) at = tree.string_value (record { lexeme = lexeme.String s; at = at }) s refl
value_read _ at = tt

-- ---- items of one line

module_is : (k t : Token) (us : List Token) (w : Word) → IsKeyword word_is.Loadmodule k → StringIs t w → EndIs us → ItemIs (k ∷ t ∷ us) (item.Module w)
module_is k _ us _ h (string_is t s i) e = tree.module_of k t us s h i e

module_takes : Takes ItemIs module_of
unfolding module_of
module_takes ts = and_so (keyword_takes word_is.Loadmodule ts) (λ _ u k. and_so (string_takes u) (λ w v t.
    let e = end_taken v in
    found _ _ (record { front = k.token ∷ t.token ∷ e.0; whole = k.whole ∙ ap (λ us. k.token ∷ us) (t.whole ∙ ap (λ us. t.token ∷ us) e.1); is = module_is k.token t.token e.0 w k.is t.is e.2 })))

parameter_of_is : (k o m c n d v e : Token) (us : List Token) (of w : Word) (x : Setting) → IsKeyword word_is.Modparam k → IsMark mark.OpenRound o → StringIs m of → IsMark mark.Comma c → StringIs n w → IsMark mark.Comma d → ValueIs v x → IsMark mark.CloseRound e → EndIs us → ItemIs (k ∷ o ∷ m ∷ c ∷ n ∷ d ∷ v ∷ e ∷ us) (item.ModuleParameter of w x)
parameter_of_is k o _ c _ d v e us _ _ x h1 h2 (string_is m s h3) h4 (string_is n t h5) h6 h7 h8 h9 = tree.module_parameter k o m c n d v e us s t x h1 h2 h3 h4 h5 h6 h7 h8 h9

module_parameter_takes : Takes ItemIs module_parameter
unfolding module_parameter value_of
module_parameter_takes ts = and_so (keyword_takes word_is.Modparam ts) (λ _ t1 k. and_so (mark_takes mark.OpenRound t1) (λ _ t2 o. and_so (string_takes t2) (λ of t3 m. and_so (mark_takes mark.Comma t3) (λ _ t4 c.
    and_so (string_takes t4) (λ w t5 n. and_so (mark_takes mark.Comma t5) (λ _ t6 d. and_so (one_takes ValueIs setting_token value_read t6) (λ x t7 v. and_so (mark_takes mark.CloseRound t7) (λ _ t8 e.
    let z = end_taken t8 in
    found _ _ (record {
      front = k.token ∷ o.token ∷ m.token ∷ c.token ∷ n.token ∷ d.token ∷ v.token ∷ e.token ∷ z.0;
      whole = cc;
      is = parameter_of_is k.token o.token m.token c.token n.token d.token v.token e.token z.0 of w x k.is o.is m.is c.is n.is d.is v.is e.is z.2;
    })))))))))

parameter_is : (n a v : Token) (us : List Token) (w : Word) (x : Setting) → NameIs n w → IsMark mark.Assign a → SettingIs v x → EndIs us → ItemIs (n ∷ a ∷ v ∷ us) (item.Parameter w x)
parameter_is _ a v us _ x (name_is n s h) k d e = tree.parameter n a v us s x h k d e

-- ---- blocks

-- the head of a block, after the word that begins it
abbrev pub HeadBehind : Token → List Token → RouteKind × Option Word → Type 0
HeadBehind t us head = HeadIs (t ∷ us) head.0 head.1 t.at

named_is : (t left b right : Token) (kind : RouteKind) (w : Word) → NamedKindIs t kind → IsMark mark.OpenSquare left → BlockNameIs b w → IsMark mark.CloseSquare right → HeadIs (t ∷ left ∷ b ∷ right ∷ []) kind (Some w) t.at
named_is t left _ right kind _ d h (block_name_is b s i) k = tree.named t left b right kind s d h i k

alone_takes : (t : Token) (o : Option RouteKind) → IfSome o (λ kind. KindIs t kind) → Takes (HeadBehind t) (alone_by o)
alone_takes t None h ts = nothing
alone_takes t (Some kind) h ts = found (kind, None) ts (record { front = []; whole = refl; is = tree.unnamed t kind h })

named_takes : (t : Token) (o : Option RouteKind) → IfSome o (λ kind. NamedKindIs t kind) → Takes (HeadBehind t) (named_by o)
named_takes t None h ts = nothing
named_takes t (Some kind) h ts = and_so (mark_takes mark.OpenSquare ts) (λ _ u l. and_so (block_name_takes u) (λ w v b. and_so (mark_takes mark.CloseSquare v) (λ _ rest r.
    found (kind, Some w) rest (record { front = l.token ∷ b.token ∷ r.token ∷ []; whole = cc; is = named_is t l.token b.token r.token kind w h l.is b.is r.is }))))

head_found : (t : Token) (kinds : BlockKinds) → KindsFor t kinds → (x : Lexeme) (ts : List Token) → OnRead (Front (HeadBehind t) ts) (head_by kinds (Some x) ts)
head_found t kinds h (lexeme.Mark mark.OpenSquare) ts = named_takes t kinds.named h.named ts
head_found t kinds h _ ts = alone_takes t kinds.alone h.alone ts

head_takes : (t : Token) (kinds : BlockKinds) → KindsFor t kinds → Takes (HeadBehind t) (head_of kinds)
unfolding head_of first
head_takes t kinds h [] = alone_takes t kinds.alone h.alone []
head_takes t kinds h (u ∷ us) = head_found t kinds h u.lexeme (u ∷ us)

block_is : (start : List Token) (t b d : Token) (hs ts rest : List Token) (head : RouteKind × Option Word) (ss : List RawStmt) → start ≡ (t ∷ hs ++ b ∷ (ts ++ d ∷ [])) ++ rest → HeadBehind t hs head → IsMark mark.OpenCurly b → StmtsAre 64 false ts ss → IsMark mark.CloseCurly d → ItemIs (t ∷ hs ++ b ∷ (ts ++ d ∷ [])) (item.Block (record { kind = head.0; name = head.1; kind_at = t.at; at = place_since start rest; body = ss }))
block_is start t b d hs ts rest head ss e h k s c =
    let us = t ∷ hs ++ b ∷ (ts ++ d ∷ []) in
    subst (λ (at : Place). ItemIs us (item.Block (record { kind = head.0; name = head.1; kind_at = t.at; at = at; body = ss }))) (sym (placed start us rest e))
    (tree.block us (t ∷ hs) ts b d head.0 head.1 t.at ss (ap (λ us. t ∷ us) (sym (append_assoc hs (b ∷ ts) (d ∷ [])))) h k s c)

block_takes : (start ts : List Token) (t : Token) (kinds : BlockKinds) → start ≡ t ∷ ts → KindsFor t kinds → OnRead (Front ItemIs start) (block start t.at kinds ts)
unfolding block
block_takes start ts t kinds e h = and_so (head_takes t kinds h ts) (λ head u f. and_so (mark_takes mark.OpenCurly u) (λ _ v b. and_so (body_takes v) (λ ss w s. and_so (mark_takes mark.CloseCurly w) (λ _ rest d.
    let whole : start ≡ (t ∷ f.front ++ b.token ∷ (s.front ++ d.token ∷ [])) ++ rest = (let p = append_assoc f.front (b.token ∷ (s.front ++ d.token ∷ [])) rest in let q = append_assoc s.front (d.token ∷ []) rest in cc) in
    found _ rest (record { front = t ∷ f.front ++ b.token ∷ (s.front ++ d.token ∷ []); whole = whole; is = block_is start t b.token d.token f.front s.front rest head ss whole f.is b.is s.is d.is })))))

data RouteAt : Token → Place → Type 0 where
  route_at : (t : Token) → IsKeyword word_is.Route t → RouteAt t t.at

route_read : (x : Lexeme) (at : Place) → IfSome (route_in x at) (λ p. RouteAt (record { lexeme = x; at = at }) p)
route_read (lexeme.Keyword word_is.Route) at = route_at (record { lexeme = lexeme.Keyword word_is.Route; at = at }) refl
route_read _ at = tt

route_takes : Takes ItemIs route_block
unfolding route_block
route_takes ts = and_so (one_takes RouteAt route_in route_read ts) (λ at u o. by o.token at u o.whole o.is)
  where
    by : (t : Token) (at : Place) (u : List Token) → ts ≡ t ∷ u → RouteAt t at → OnRead (Front ItemIs ts) (block ts at route_kinds u)
    by _ _ u e (route_at t h) = block_takes ts u t route_kinds e (route_kinds_for t h)

named_item_takes : Takes ItemIs named_item
unfolding named_item parameter setting_of
named_item_takes ts = and_so (name_takes ts) (λ w u o. eaten mark.Assign u _ _
    (λ a v e h. and_so (one_takes SettingIs setting_in setting_read v) (λ x y s.
    let z = end_taken y in
    found _ _ (record { front = o.token ∷ a ∷ s.token ∷ z.0; whole = cc; is = parameter_is o.token a s.token z.0 w x o.is h s.is z.2 })))
    (by o.token w u o.whole o.is))
  where
    by : (t : Token) (w : Word) (u : List Token) → ts ≡ t ∷ u → NameIs t w → OnRead (Front ItemIs ts) (block ts w.at (kinds_of w.text) u)
    by _ _ u e (name_is t s h) = block_takes ts u t (kinds_of s) e (name_kinds_for t s h)

-- ---- the script

item_found : (x : Lexeme) (ts : List Token) → OnRead (Front ItemIs ts) (item_by (Some x) ts)
item_found (lexeme.Keyword word_is.Loadmodule) ts = module_takes ts
item_found (lexeme.Keyword word_is.Modparam) ts = module_parameter_takes ts
item_found (lexeme.Keyword word_is.Route) ts = route_takes ts
item_found _ ts = named_item_takes ts

next_takes : (ts : List Token) → OnRead (OnStep ItemIs ts) (next_item ts)
unfolding next_item read_item first
next_takes [] = found None [] refl
next_takes (t ∷ ts) = and_so (item_found t.lexeme (t ∷ ts)) (λ i rest f. found (Some i) rest f)

of_items : (us : List Token) (xs : List RawItem) → Several ItemIs us xs → Derives us xs
of_items _ _ none = tree.nothing
of_items _ _ (more ts us i xs d r) = tree.one_item ts us i xs d (of_items us xs r)

pub items_take : Takes Derives items
unfolding items
items_take ts = weaker (many_takes ItemIs next_item next_takes ts) (λ xs rest f. record { front = f.front; whole = f.whole; is = of_items f.front xs f.is })
