use Rattle.cluster_program.proofs.OneEndingLemmas.{one_command_ending, one_gen_ending, one_read_ending}
use Rattle.cluster_program.proofs.laws.law_calls_end_one_way.Goals as goal

pub returns : goal.returns
returns c = record { of_text = one_read_ending; of_gen = one_gen_ending; of_command = one_command_ending }
