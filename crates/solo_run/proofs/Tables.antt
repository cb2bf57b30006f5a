-- An operation on a table of the list.
use Rattle.std.proofs.Common.{◌≡◌, ℕ, List, [], ◌++◌, map, refl, sym, ap, ◌∙◌, slice_set, ◌<◌, length, get_or}
use Rattle.std.specs.Prelude.{Option, Some, Ok, slice_get}
use Rattle.std.specs.Option.{option_map}
use Rattle.std.proofs.Common.{append-nil}
use Rattle.std.proofs.lemmas.List.{map-set}
use Rattle.std.proofs.lemmas.Option.{slice_get-map, slice_get_read}
use Rattle.ht_core.specs.declared.operation.TabOp.{TabOp}
use Rattle.ht_core.specs.declared.operation.TabReply.{TabReply}
use Rattle.ht_core.specs.declared.table.Table.{Table}
use Rattle.ht_core.specs.Tables.{IsStep, outcome, at as at_moment, holding}
use Rattle.ht_core.specs.Shown.{state_of}
use Rattle.host_meaning.specs.declared.ask.Asked.TheVariants as ask
use Rattle.script_host.specs.declared.ask.Answer.TheVariants as answer
use Rattle.host_meaning.specs.declared.ask.Heard.TheVariants as heard
use Rattle.solo_run.specs.declared.objects.Objects.{Objects}
use Rattle.solo_run.specs.Objects.{answered, by_table}
use Rattle.solo_run.specs.Running.{IsAnswered, tables_of}

pub operated : (patterns : List (List ℕ)) (now n : ℕ) (op : TabOp) (reply : TabReply) (old new : Objects) (t t' : Table)
    → n < length old.tables.items → t ≡ get_or old.tables.items n t → IsStep patterns (state_of t) (record { op = op; now = now; reply = Ok reply }) (state_of t')
    → new.tables.items ≡ slice_set old.tables.items n t' → new.trace.items ≡ old.trace.items
    → IsAnswered patterns now old (ask.Table n op) (answer.Table reply) new
operated patterns now n op reply old new t t' inside is step set same =
    let found : slice_get old.tables.items n ≡ Some t = slice_get_read old.tables.items (length old.tables.items) n t refl inside is in
    let there : slice_get (tables_of old) n ≡ Some (state_of t) = slice_get-map state_of old.tables.items n ∙ ap (option_map state_of) found in
    record {
      heard = rw there (ap heard.Table step.answered);
      shown = record {
        trace = same ∙ sym (append-nil old.trace.items);
        tables_are = rw there (ap (map state_of) set ∙ map-set state_of old.tables.items n t' ∙ ap (slice_set (tables_of old) n) step.leaves);
      };
    }
