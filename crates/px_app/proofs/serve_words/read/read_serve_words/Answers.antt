use Rattle.std.proofs.Common.{◌≡◌, ◌∙◌, ◌⊎◌, ap, inl, subst, map, string_bytes, sym, []}
use Rattle.clap.specs.Words.{IsAmong, fault_of, found_of, is_simple, is_simple_and_free, kind_of, matches_of, rows_of, takes}
use Rattle.px_app.specs.ServeCommand.{rows, serve_command}
use Rattle.clap.specs.declared.error.kind.ErrorKind.TheVariants.{OutOfMemory}
use Rattle.px_app.specs.declared.serve_words.words.WordsFault.TheVariants as fault
use Rattle.px_app.proofs.Plainly.{plain_taken}
use Rattle.px_app.proofs.ServeReading.{has_fault, plain_side, read_side, same_why}
use Rattle.px_app.proofs.Required.{has_options}
use Rattle.px_app.proofs.serve_words.read.read_serve_words.Goals as goal

pub options-requires : goal.options-requires
options-requires c = has_options c.in_ok-command.command c.in_ok-command.ensures c.in-Ok.matches c.in-Ok.ensures.parsed

pub returns-in-Ok-clause-plain : goal.returns-in-Ok-clause-plain
returns-in-Ok-clause-plain c = λ said plain.
    let words = map string_bytes c.args.words.now in
    let found : rows_of (found_of c.in-Ok.matches) ≡ rows words =
    (c.in-Ok.ensures.matches (ap is_simple c.in_ok-command.ensures)).0 ∙ ap (λ a. matches_of a words) c.in_ok-command.ensures in
    plain_side c.options.result (rows_of (found_of c.in-Ok.matches)) words said found c.options.ensures plain

pub returns-in-Ok-clause-read : goal.returns-in-Ok-clause-read
returns-in-Ok-clause-read c =
    let words = map string_bytes c.args.words.now in
    let found : rows_of (found_of c.in-Ok.matches) ≡ rows words =
    (c.in-Ok.ensures.matches (ap is_simple c.in_ok-command.ensures)).0 ∙ ap (λ a. matches_of a words) c.in_ok-command.ensures in
    let quiet : fault_of serve_command words ≡ [] =
    ap (λ a. fault_of a words) (sym c.in_ok-command.ensures) ∙ c.in-Ok.ensures.kinds (ap is_simple_and_free c.in_ok-command.ensures) in
    read_side (fault_of serve_command words ≡ []) c.options.result (rows_of (found_of c.in-Ok.matches)) (rows words) quiet found
    (has_options c.in_ok-command.command c.in_ok-command.ensures c.in-Ok.matches c.in-Ok.ensures.parsed) c.options.ensures

pub returns-in-Err-clause-plain : goal.returns-in-Err-clause-plain
returns-in-Err-clause-plain c = λ said plain.
    let words = map string_bytes c.args.words.now in
    c.refusal.ensures.memory (c.kind.ensures
    ∙ c.in-Err.ensures.passes (ap (λ a. takes a words) c.in_ok-command.ensures ∙ plain_taken words said plain))

pub returns-in-Err-clause-usage : goal.returns-in-Err-clause-usage
returns-in-Err-clause-usage c = λ usage.
    let words = map string_bytes c.args.words.now in
    let kinds = subst (λ a. (kind_of c.in-Err.error ≡ OutOfMemory) ⊎ IsAmong (kind_of c.in-Err.error) (fault_of a words)) c.in_ok-command.ensures
    (c.in-Err.ensures.kinds (ap is_simple_and_free c.in_ok-command.ensures)) in
    inl (has_fault (kind_of c.in-Err.error) (fault_of serve_command words) kinds
    (λ memory. c.refusal.ensures.usage (same_why c.refusal.result fault.Usage usage) (c.kind.ensures ∙ memory)))
