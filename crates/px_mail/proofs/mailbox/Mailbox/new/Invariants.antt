use Rattle.std.proofs.Common.{Some}
use Rattle.px_mail.proofs.mailbox.Mailbox.new.Given as goal

abbrev pub ghosts-made : goal.ghosts-made
ghosts-made g a = record { picked = Some a.key }
