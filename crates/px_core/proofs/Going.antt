-- A connection that goes on is found by its own number.
use Rattle.std.proofs.Common.{◌≡◌, List, Option, Some, None, Bool, true, false, refl, ap, subst, ◌∙◌, cond}
use Rattle.std.specs.Prelude.{nat_eq}
use Rattle.std.proofs.lemmas.Bool.{eqb-true}
use Rattle.std.proofs.lemmas.Option.{none-some, same_Some}
use Rattle.px_types.specs.declared.ids.ConnId.{ConnId}
use Rattle.px_outcome.specs.declared.input.Connection.{Connection}
use Rattle.px_state.specs.State.{has_number, connection_of}
use Rattle.px_core.specs.Connecting.{unmarked, going_on}
use Rattle.px_core.proofs.ListLaws.{found_test}

found_number : (cs : List Connection) (n : ConnId) (c : Connection) → going_on cs n ≡ Some c → c.conn.0 ≡ n.0
found_number cs n c e = inner (connection_of cs n) refl e
  where
    this : (x : Connection) → connection_of cs n ≡ Some x → (m : Bool) → cond m None (Some x) ≡ Some c → c.conn.0 ≡ n.0
    this x found true f = absurd (none-some c f)
    this x found false f = eqb-true c.conn.0 n.0 (subst (λ z. nat_eq (Connection.conn z).0 n.0 ≡ true) (same_Some x c f) (found_test (has_number n) cs x found))

    inner : (o : Option Connection) → connection_of cs n ≡ o → unmarked o ≡ Some c → c.conn.0 ≡ n.0
    inner None found f = absurd (none-some c f)
    inner (Some x) found f = this x found x.marked f

-- it exists
pub going_there : (cs : List Connection) (c : Connection) → going_on cs c.conn ≡ Some c → connection_of cs c.conn ≡ Some c
going_there cs c e = inner (connection_of cs c.conn) e
  where
    this : (x : Connection) (m : Bool) → cond m None (Some x) ≡ Some c → Some x ≡ Some c
    this x true f = absurd (none-some c f)
    this x false f = f

    inner : (o : Option Connection) → unmarked o ≡ Some c → o ≡ Some c
    inner None f = absurd (none-some c f)
    inner (Some x) f = this x x.marked f

pub going_by_own : (cs : List Connection) (n : ConnId) (c : Connection) → going_on cs n ≡ Some c → going_on cs c.conn ≡ Some c
going_by_own cs n c e = ap (λ k. going_on cs (record { 0 = k })) (found_number cs n c e) ∙ e
