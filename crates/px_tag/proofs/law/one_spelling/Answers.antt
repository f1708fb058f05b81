use Rattle.px_tag.proofs.Items.{number_law, volume_law, byte_law, wide_law, signed_law, usec_law, flag_law, text_law, arbitrary_law, counted_law}
use Rattle.px_tag.proofs.Parts.{spec_law, map_law, volumes_law, time_law}
use Rattle.px_tag.proofs.Written.{written_law, list_again, meaning_rules}
use Rattle.px_tag.proofs.law.one_spelling.Goals as goal

pub returns-clause-numbers : goal.returns-clause-numbers
returns-clause-numbers c = number_law

pub returns-clause-levels : goal.returns-clause-levels
returns-clause-levels c = volume_law

pub returns-clause-bytes : goal.returns-clause-bytes
returns-clause-bytes c = byte_law

pub returns-clause-wides : goal.returns-clause-wides
returns-clause-wides c = wide_law

pub returns-clause-signeds : goal.returns-clause-signeds
returns-clause-signeds c = signed_law

pub returns-clause-usecs : goal.returns-clause-usecs
returns-clause-usecs c = usec_law

pub returns-clause-flags : goal.returns-clause-flags
returns-clause-flags c = flag_law

pub returns-clause-texts : goal.returns-clause-texts
returns-clause-texts c = text_law

pub returns-clause-arbitraries : goal.returns-clause-arbitraries
returns-clause-arbitraries c = arbitrary_law

pub returns-clause-counted : goal.returns-clause-counted
returns-clause-counted c = counted_law

pub returns-clause-specs : goal.returns-clause-specs
returns-clause-specs c = spec_law

pub returns-clause-maps : goal.returns-clause-maps
returns-clause-maps c = map_law

pub returns-clause-volumes : goal.returns-clause-volumes
returns-clause-volumes c = volumes_law

pub returns-clause-times : goal.returns-clause-times
returns-clause-times c = time_law

pub returns-clause-proplists : goal.returns-clause-proplists
returns-clause-proplists c = written_law

pub returns-clause-stays : goal.returns-clause-stays
returns-clause-stays c = list_again

pub returns-clause-meanings : goal.returns-clause-meanings
returns-clause-meanings c = meaning_rules
