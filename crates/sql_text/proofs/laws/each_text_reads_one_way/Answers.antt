use Rattle.sql_text.proofs.Reading.{tokens_or_stop, tokens_or_fault, only_tokens, one_fault}
use Rattle.sql_text.proofs.laws.each_text_reads_one_way.Goals as goal

pub returns-clause-either : goal.returns-clause-either
returns-clause-either c = tokens_or_stop

pub returns-clause-never_both : goal.returns-clause-never_both
returns-clause-never_both c = tokens_or_fault

pub returns-clause-one_list : goal.returns-clause-one_list
returns-clause-one_list c = only_tokens

pub returns-clause-one_place : goal.returns-clause-one_place
returns-clause-one_place c = one_fault
