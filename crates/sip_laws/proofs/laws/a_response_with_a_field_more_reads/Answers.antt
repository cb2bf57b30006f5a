use Rattle.sip_laws.proofs.AddedField.{field_more_reads}
use Rattle.sip_laws.proofs.laws.a_response_with_a_field_more_reads.Goals as goal

pub returns : goal.returns
returns c = field_more_reads
