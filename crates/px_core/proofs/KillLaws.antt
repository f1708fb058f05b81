-- A connection that a client is ended with goes on: it is found by its own number.
use Rattle.std.proofs.Common.{◌≡◌, ℕ, List, [], ◌∷◌, Option, Some, None, Bool, true, false, refl, ap, sym, subst, ◌∙◌, cond}
use Rattle.std.specs.Prelude.{nat_eq, IsSome}
use Rattle.std.specs.List.{find}
use Rattle.std.proofs.lemmas.Bool.{cond-true, cond-false, eq-eqb, ne_eqb}
use Rattle.std.proofs.lemmas.Option.{none-some, same_Some}
use Rattle.px_outcome.specs.declared.input.Connection.{Connection}
use Rattle.px_outcome.specs.declared.input.Input.{Input}
use Rattle.px_outcome.specs.declared.waiting.Waiting.{Waiting}
use Rattle.px_outcome.specs.declared.change.Change.TheVariants.{Ended}
use Rattle.px_outcome.specs.declared.sending.Reason.TheVariants.{Killed}
use Rattle.px_ctl_info.specs.Clients.{is_of, connection_with, kill_client}
use Rattle.px_ctl_play.specs.Kill.{kill_input}
use Rattle.px_state.specs.State.{State, connection_of}
use Rattle.px_core.specs.Connecting.{unmarked}
use Rattle.px_core.specs.Consistency.{AreDistinct}
use Rattle.px_core.specs.Lawful.{AreLawful}
use Rattle.px_core.proofs.ListLaws.{found_all}
use Rattle.px_core.proofs.HandledLaws.{Each}
use Rattle.px_core.proofs.AnswerLaws.{IsLawful}

-- where no two have the same number, one that is found in any way is the one with its number
found_by_number : (q : Connection → Bool) (cs : List Connection) (c : Connection) → AreDistinct cs → find q cs ≡ Some c → connection_of cs c.conn ≡ Some c
found_by_number q [] c d e = absurd (none-some c e)
found_by_number q (x ∷ cs) c d e = step (found_by_number q cs c d.1) (q x) e
  where
    own : x ≡ c → connection_of (x ∷ cs) c.conn ≡ Some c
    own same = cond-true (nat_eq x.conn.0 c.conn.0) (Some x) (connection_of cs c.conn) (eq-eqb x.conn.0 c.conn.0 (ap (λ d. (Connection.conn d).0) same)) ∙ ap (λ d. Some d) same

    step : (find q cs ≡ Some c → connection_of cs c.conn ≡ Some c) → (b : Bool) → cond b (Some x) (find q cs) ≡ Some c → connection_of (x ∷ cs) c.conn ≡ Some c
    step later true f = own (same_Some x c f)
    step later false f =
        cond-false (nat_eq x.conn.0 c.conn.0) (Some x) (connection_of cs c.conn)
        (ne_eqb x.conn.0 c.conn.0 (λ (g : x.conn.0 ≡ c.conn.0). found_all (λ b. (Connection.conn b).0 ≡ x.conn.0 → ⊥) q cs c d.0 f (sym g)))
        ∙ later f

ended_lawful : {P : Type 0} (state : State P) (c : Connection) → connection_of state.connections c.conn ≡ Some c → (m : Bool) → c.marked ≡ m → AreLawful {P = P} state (cond m [] (Ended c.conn (Some Killed) 0 0 ∷ []))
ended_lawful state c e true f = tt
ended_lawful state c e false f = (subst IsSome (sym (ap unmarked e ∙ cond-false c.marked None (Some c) f)) refl, tt)

pub kill_client_lawful : {P : Type 0} (state : State P) → AreDistinct state.connections → (client tag : ℕ) (o : Option Connection) → connection_with state.connections client ≡ o → Each (IsLawful state) (kill_client o tag)
kill_client_lawful state d client tag None e = tt
kill_client_lawful state d client tag (Some c) e = ended_lawful state c (found_by_number (is_of client) state.connections c d e) c.marked refl

pub kill_input_lawful : {P : Type 0} (state : State P) (o : Option Input) (owner : Option Connection) (waiting : List Waiting) (tag : ℕ) → Each (IsLawful state) (kill_input o owner waiting tag)
kill_input_lawful state None owner waiting tag = tt
kill_input_lawful state (Some x) owner waiting tag = (tt, tt)
