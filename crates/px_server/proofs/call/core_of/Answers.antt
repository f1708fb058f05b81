use Rattle.std.proofs.Common.{option_map}
use Rattle.px_server.proofs.call.core_of.Goals as goal

-- the core began with the name that it was given
pub new-requires-2-clause-begins : goal.new-requires-2-clause-begins
new-requires-2-clause-begins g c = record {
  header = c.args.header.now;
  lawful = c.requires.header;
  source = option_map (λ name. name.now) c.args.source;
  state_is = c.in_ok-core.ensures;
  ends_are = c.requires.ends;
}
