-- A script that loads another module.
use Rattle.std.proofs.Common.{◌∙◌, refl, ◌≡◌, Bool, true, false, if◌then◌else◌, List, [], ◌∷◌, sym, ap, subst, inl, inr, arith}
use Rattle.std.proofs.lemmas.Bool.{false≢true}
use Rattle.pv_values.specs.declared.refusal.Place.{Place}
use Rattle.pv_values.specs.declared.block.BlockKind.TheVariants.{Request}
use Rattle.cfg_tree.specs.declared.raw.Word.{Word}
use Rattle.cfg_tree.specs.declared.raw.RawItem.{RawItem}
use Rattle.cfg_tree.specs.declared.raw.RawItem.TheVariants as item
use Rattle.cfg_tree.specs.declared.raw.RawScript.{RawScript}
use Rattle.cfg_tree.specs.Settings.{Settings, unset, is_module, item_step, settings_behind, setting_refusals}
use Rattle.cfg_tree.specs.Checks.{blocks_of, unnamed}
use Rattle.cfg_tree.specs.Refusals.{Refusal, refusal}
use Rattle.cfg_tree.specs.declared.refusal_kind.RefusalKind.TheVariants.{UnknownRoute, RouteTwice, UnknownFunction, WrongBlock, WrongArguments, UnknownVariable, NotWritable, BadParameter, BadPattern, TooLarge, NoRequestRoute, UnknownModule}
use Rattle.cfg_laws.specs.Causes.{Exactly, IsListed, LoadsAnother}
use Rattle.cfg_laws.proofs.Telling.{In, in_front, in_back, in_from_contains, contains_from_in}
use Rattle.cfg_laws.proofs.Paths.{from_module, other_module}
use Rattle.cfg_laws.proofs.Apart.{apart, IsOfNoBody, no_body}
use Rattle.cfg_laws.proofs.Whole.{behind_one, blocks_none, request_none, all_parts, all_from, Of_all, of_settings, of_blocks, of_bodies, of_request}

module _ (at : Place) where
  abbrev here : Refusal
  here = refusal UnknownModule at

  none_of_body : IsOfNoBody here
  none_of_body = record {
    other = record {
      function = apart 15 at UnknownFunction (λ n. omega (arith, n));
      block = apart 15 at WrongBlock (λ n. omega (arith, n));
      arguments = apart 15 at WrongArguments (λ n. omega (arith, n));
      variable = apart 15 at UnknownVariable (λ n. omega (arith, n));
    };
    route = apart 15 at UnknownRoute (λ n. omega (arith, n));
    written = apart 15 at NotWritable (λ n. omega (arith, n));
    pattern = apart 15 at BadPattern (λ n. omega (arith, n));
    limit = apart 15 at TooLarge (λ n. omega (arith, n));
  }

  among_settings : (raw : RawScript) → Of_all raw here → In here (setting_refusals raw.items)
  among_settings raw (of_settings h) = h
  among_settings raw (of_blocks h) = absurd (blocks_none here (apart 15 at RouteTwice (λ n. omega (arith, n))) (apart 15 at TooLarge (λ n. omega (arith, n))) (blocks_of raw.items) [] h)
  among_settings raw (of_bodies h) = absurd (no_body here none_of_body raw h)
  among_settings raw (of_request h) = absurd (request_none here (apart 15 at NoRequestRoute (λ n. omega (arith, n))) raw (unnamed Request raw) h)

  another_from : (raw : RawScript) → In here (setting_refusals raw.items) → LoadsAnother raw at
  another_from raw h =
      behind_one here (apart 15 at BadParameter (λ n. omega (arith, n))) (apart 15 at TooLarge (λ n. omega (arith, n))) (LoadsAnother raw at) raw.items unset (λ w there is e. record {
        word = w;
        is_loaded = contains_from_in (item.Module w) raw.items there;
        another = λ m. false≢true (sym is ∙ from_module w.text m);
        place = sym (ap (λ (x : Refusal). x.at) e);
      }) h

  refused_there : (w : Word) (b : Bool) → b ≡ false → at ≡ w.at → In here (if b then [] else refusal UnknownModule w.at ∷ [])
  refused_there w true e place = absurd (false≢true (sym e))
  refused_there w false e place = inl (ap (refusal UnknownModule) (sym place))

  loaded_in : (w : Word) → is_module w.text ≡ false → at ≡ w.at → (items : List RawItem) (s : Settings) → In (item.Module w) items → In here (settings_behind s items).1
  loaded_in w is place [] s h = absurd h
  loaded_in w is place (i ∷ more) s (inl e) = in_front here (item_step i s).1 (settings_behind (item_step i s).0 more).1
      (subst (λ (x : RawItem). In here (item_step x s).1) (sym e) (refused_there w (is_module w.text) is place))
  loaded_in w is place (i ∷ more) s (inr h) = in_back here (item_step i s).1 (settings_behind (item_step i s).0 more).1 (loaded_in w is place more (item_step i s).0 h)

  pub other_modules : (raw : RawScript) → Exactly (IsListed raw UnknownModule at) (LoadsAnother raw at)
  other_modules raw = (
    λ h. another_from raw (among_settings raw (all_parts raw here h)),
    λ l. all_from raw here (of_settings (loaded_in l.word (other_module l.word.text (is_module l.word.text) refl l.another) l.place raw.items unset (in_from_contains (item.Module l.word) raw.items l.is_loaded))),
  )
