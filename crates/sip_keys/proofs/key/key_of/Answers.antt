-- The host lies in the datagram.
use Rattle.sip_keys.proofs.Within.{top_lies}
use Rattle.sip_keys.proofs.key.key_of.Goals as goal

pub key_with-requires-clause-host : goal.key_with-requires-clause-host
key_with-requires-clause-host c = (top_lies c.args.b.now c.args.m.now c.requires.reads).host
