-- Asks and answers as plain data.
use Rattle.std.specs.Prelude.{ℕ, true, false, List, Option, Some, None}
use Rattle.host_meaning.specs.declared.ask.Asked.{Asked}
use Rattle.host_meaning.specs.declared.ask.Asked.TheVariants as asked
use Rattle.host_meaning.specs.declared.ask.Heard.{Heard}
use Rattle.host_meaning.specs.declared.ask.Heard.TheVariants as heard
use Rattle.script_host.specs.declared.ask.Ask.{Ask}
use Rattle.script_host.specs.declared.ask.Ask.TheVariants as ask
use Rattle.script_host.specs.declared.ask.Answer.{Answer}
use Rattle.script_host.specs.declared.ask.Answer.TheVariants as answer

-- an ask as plain data, with the text of the datagram where one is to be sent
abbrev pub as_asked : Ask → List ℕ → Asked
as_asked (ask.Send to) text = asked.Send to text
as_asked (ask.Table t op) text = asked.Table t op
as_asked ask.Open text = asked.Open
as_asked (ask.Claim slot serial by) text = asked.Claim slot serial by
as_asked ask.Find text = asked.Find
as_asked ask.Block text = asked.Block
as_asked (ask.GiveBack block) text = asked.GiveBack
as_asked (ask.Due at) text = asked.Due at
as_asked ask.Free text = asked.Free
as_asked (ask.Log line) text = asked.Log line
as_asked (ask.Post job) text = asked.Post job

-- an answer as plain data
abbrev pub as_heard : Answer → Heard
as_heard answer.Start = heard.Start
as_heard answer.Sent = heard.Sent
as_heard answer.Failed = heard.Failed
as_heard (answer.Table reply) = heard.Table reply
as_heard (answer.Opened serial) = heard.Opened serial
as_heard (answer.Claim end) = heard.Claim end
as_heard (answer.Found at) = heard.Found at
as_heard (answer.Block None) = heard.Block false
as_heard (answer.Block (Some block)) = heard.Block true
as_heard answer.Noted = heard.Noted
as_heard answer.NoMemory = heard.NoMemory
