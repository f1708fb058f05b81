-- Jobs in threads of their own.
use Rattle.px_workers.specs.declared.running.Running.{Running}

-- the job that a thread was given
abbrev pub given_to : {J : Type 0} → Running J → J
given_to running = running.handle.promise.0.value
