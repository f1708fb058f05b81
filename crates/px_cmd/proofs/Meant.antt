-- A command is the one that its number and its fields name.
use Rattle.std.proofs.Common.{◌≡◌, ℕ, ◌≤◌, Bool, true, ◌⊎◌, List, [], ◌∷◌, ◌++◌, length, is_some, slice_index, Option, None, Some, Result, Ok, Err, refl, sym, ap, ◌∙◌, ⊎_elim, IfOk, arith}
use Rattle.std.proofs.lemmas.Bool.{leb-true, le-leb}
use Rattle.std.proofs.lemmas.Bool.Decides.{nat_tests}
use Rattle.px_cmd.specs.declared.command.CreateFields.{CreateFields}
use Rattle.px_cmd.specs.declared.command.Command.{Command}
use Rattle.px_cmd.specs.declared.command.Command.TheVariants as commands
use Rattle.px_cmd.specs.declared.fault.CmdFault.{CmdFault}
use Rattle.px_cmd.specs.declared.fault.CmdFault.TheVariants.{Protocol, Unknown, Unsupported, NoMemory}
use Rattle.px_cmd.specs.Command.{optional, create_fields, fields_of, number_of, is_empty_list, IsNumbered}
use Rattle.px_cmd.specs.Field.{Field}
use Rattle.px_cmd.specs.Packet.{meaning, FailsAs, Answers}
use Rattle.px_cmd.specs.Meant.{flag_at, command_of, command_or, command_by, meant, IsFrom, AreFields, IsOfVersion}

four : (asked : List ℕ) → length asked ≡ 4 → slice_index asked 0 ∷ slice_index asked 1 ∷ slice_index asked 2 ∷ slice_index asked 3 ∷ [] ≡ asked
four (a ∷ b ∷ c ∷ d ∷ []) e = refl
four [] e = absurd cc
four (a ∷ []) e = absurd (omega (arith, e))
four (a ∷ b ∷ []) e = absurd (omega (arith, e))
four (a ∷ b ∷ c ∷ []) e = absurd (omega (arith, e))
four (a ∷ b ∷ c ∷ d ∷ x ∷ rest) e = absurd (omega (arith, e))

listed : (number : ℕ) → is_empty_list number ≡ true → (number ≡ 24) ⊎ ((number ≡ 26) ⊎ ((number ≡ 32) ⊎ ((number ≡ 34) ⊎ (number ≡ 89))))
listed number e = grind (arith, nat_tests)

empty_is : (number known : ℕ) → number ≡ known → command_of known [] ≡ Some (commands.EmptyList known) → command_of number [] ≡ Some (commands.EmptyList number)
empty_is number known e h = rw e h

again_empty : (number : ℕ) → is_empty_list number ≡ true → command_of number [] ≡ Some (commands.EmptyList number)
again_empty number e =
    ⊎_elim (λ a. empty_is number 24 a refl)
    (⊎_elim (λ a. empty_is number 26 a refl)
    (⊎_elim (λ a. empty_is number 32 a refl)
    (⊎_elim (λ a. empty_is number 34 a refl)
    (λ a. empty_is number 89 a refl)))) (listed number e)

-- ---- flags of later versions: those that are there come first

abbrev tail : (a b c d e f g : Option Bool) → List Field
tail a b c d e f g = optional a ++ optional b ++ optional c ++ optional d ++ optional e ++ optional f ++ optional g

record AreFirst (a b c d e f g : Option Bool) : Type 0 where
  at_0 : flag_at 0 (tail a b c d e f g) ≡ a
  at_1 : flag_at 1 (tail a b c d e f g) ≡ b
  at_2 : flag_at 2 (tail a b c d e f g) ≡ c
  at_3 : flag_at 3 (tail a b c d e f g) ≡ d
  at_4 : flag_at 4 (tail a b c d e f g) ≡ e
  at_5 : flag_at 5 (tail a b c d e f g) ≡ f
  at_6 : flag_at 6 (tail a b c d e f g) ≡ g

abbrev IsThere : Option Bool → Type 0
IsThere flag = is_some flag ≡ true

nothing_there : {A : Type 0} → (let none : Option Bool = None in is_some none) ≡ true → A
nothing_there e = absurd cc

are_first : (a b c d e f g : Option Bool) → is_some a ≡ is_some b → (IsThere c → IsThere b) → is_some c ≡ is_some d → is_some d ≡ is_some e → (IsThere f → IsThere e) → (IsThere g → IsThere f) → AreFirst a b c d e f g
are_first None (Some b) c d e f g ab cb cd de fe gf = absurd cc
are_first (Some a) None c d e f g ab cb cd de fe gf = absurd cc
are_first None None (Some c) d e f g ab cb cd de fe gf = nothing_there (cb refl)
are_first None None None (Some d) e f g ab cb cd de fe gf = absurd cc
are_first None None None None (Some e) f g ab cb cd de fe gf = absurd cc
are_first None None None None None (Some f) g ab cb cd de fe gf = nothing_there (fe refl)
are_first None None None None None None (Some g) ab cb cd de fe gf = nothing_there (gf refl)
are_first None None None None None None None ab cb cd de fe gf = record { at_0 = refl; at_1 = refl; at_2 = refl; at_3 = refl; at_4 = refl; at_5 = refl; at_6 = refl }
are_first (Some a) (Some b) None (Some d) e f g ab cb cd de fe gf = absurd cc
are_first (Some a) (Some b) None None (Some e) f g ab cb cd de fe gf = absurd cc
are_first (Some a) (Some b) None None None (Some f) g ab cb cd de fe gf = nothing_there (fe refl)
are_first (Some a) (Some b) None None None None (Some g) ab cb cd de fe gf = nothing_there (gf refl)
are_first (Some a) (Some b) None None None None None ab cb cd de fe gf = record { at_0 = refl; at_1 = refl; at_2 = refl; at_3 = refl; at_4 = refl; at_5 = refl; at_6 = refl }
are_first (Some a) (Some b) (Some c) None e f g ab cb cd de fe gf = absurd cc
are_first (Some a) (Some b) (Some c) (Some d) None f g ab cb cd de fe gf = absurd cc
are_first (Some a) (Some b) (Some c) (Some d) (Some e) None (Some g) ab cb cd de fe gf = nothing_there (gf refl)
are_first (Some a) (Some b) (Some c) (Some d) (Some e) None None ab cb cd de fe gf = record { at_0 = refl; at_1 = refl; at_2 = refl; at_3 = refl; at_4 = refl; at_5 = refl; at_6 = refl }
are_first (Some a) (Some b) (Some c) (Some d) (Some e) (Some f) None ab cb cd de fe gf = record { at_0 = refl; at_1 = refl; at_2 = refl; at_3 = refl; at_4 = refl; at_5 = refl; at_6 = refl }
are_first (Some a) (Some b) (Some c) (Some d) (Some e) (Some f) (Some g) ab cb cd de fe gf = record { at_0 = refl; at_1 = refl; at_2 = refl; at_3 = refl; at_4 = refl; at_5 = refl; at_6 = refl }

-- a flag of a version is there only where one of an earlier version is
earlier : (since before version : ℕ) (flag other : Option Bool) → before ≤ since → IsFrom since version flag → IsFrom before version other → IsThere flag → IsThere other
earlier since before version flag other le is was there =
    let since_version : since ≤ version = leb-true _ _ (sym is ∙ there) in
    was ∙ le-leb _ _ (omega (arith, le, since_version))

-- CREATE_PLAYBACK_STREAM as its fields are read again
read_again : CreateFields → CreateFields
read_again c = record c {
  asked = slice_index c.asked 0 ∷ slice_index c.asked 1 ∷ slice_index c.asked 2 ∷ slice_index c.asked 3 ∷ [];
  volume_set = flag_at 0 (tail c.volume_set c.early_requests c.muted_set c.dont_inhibit_auto_suspend c.fail_on_suspend c.relative_volume c.passthrough);
  early_requests = flag_at 1 (tail c.volume_set c.early_requests c.muted_set c.dont_inhibit_auto_suspend c.fail_on_suspend c.relative_volume c.passthrough);
  muted_set = flag_at 2 (tail c.volume_set c.early_requests c.muted_set c.dont_inhibit_auto_suspend c.fail_on_suspend c.relative_volume c.passthrough);
  dont_inhibit_auto_suspend = flag_at 3 (tail c.volume_set c.early_requests c.muted_set c.dont_inhibit_auto_suspend c.fail_on_suspend c.relative_volume c.passthrough);
  fail_on_suspend = flag_at 4 (tail c.volume_set c.early_requests c.muted_set c.dont_inhibit_auto_suspend c.fail_on_suspend c.relative_volume c.passthrough);
  relative_volume = flag_at 5 (tail c.volume_set c.early_requests c.muted_set c.dont_inhibit_auto_suspend c.fail_on_suspend c.relative_volume c.passthrough);
  passthrough = flag_at 6 (tail c.volume_set c.early_requests c.muted_set c.dont_inhibit_auto_suspend c.fail_on_suspend c.relative_volume c.passthrough);
}

is_again : (version : ℕ) (c : CreateFields) → AreFields version c → read_again c ≡ c
unfolding read_again
is_again version c h =
    let first = are_first c.volume_set c.early_requests c.muted_set c.dont_inhibit_auto_suspend c.fail_on_suspend c.relative_volume c.passthrough
    (h.volume_set ∙ sym h.early_requests)
    (earlier 15 14 version c.muted_set c.early_requests (omega arith) h.muted_set h.early_requests)
    (h.muted_set ∙ sym h.dont_inhibit_auto_suspend)
    (h.dont_inhibit_auto_suspend ∙ sym h.fail_on_suspend)
    (earlier 17 15 version c.relative_volume c.fail_on_suspend (omega arith) h.relative_volume h.fail_on_suspend)
    (earlier 18 17 version c.passthrough c.relative_volume (omega arith) h.passthrough h.relative_volume) in
    rw (four c.asked h.asked, first.at_0, first.at_1, first.at_2, first.at_3, first.at_4, first.at_5, first.at_6) refl

again_create : (version : ℕ) (c : CreateFields) → AreFields version c → command_of 3 (create_fields c) ≡ Some (commands.Create c)
unfolding read_again
again_create version c h =
    let made : command_of 3 (create_fields c) ≡ Some (commands.Create (read_again c)) = refl in
    made ∙ ap (λ (f : CreateFields). Some (commands.Create f)) (is_again version c h)

flag_again : (early : Option Bool) → flag_at 0 (optional early) ≡ early
flag_again None = refl
flag_again (Some on) = refl

again_attributes : (stream : ℕ) (asked : List ℕ) (adjust : Bool) (early : Option Bool) → length asked ≡ 4
    → command_of 72 (fields_of (commands.Attributes stream asked adjust early)) ≡ Some (commands.Attributes stream asked adjust early)
again_attributes stream asked adjust early e =
    ap (λ (xs : List ℕ). Some (commands.Attributes stream xs adjust (flag_at 0 (optional early)))) (four asked e) ∙ ap (λ (flag : Option Bool). Some (commands.Attributes stream asked adjust flag)) (flag_again early)

pub again : (version : ℕ) (c : Command) → IsNumbered c → IsOfVersion version c → command_of (number_of c) (fields_of c) ≡ Some c
again version (commands.Create fields) numbered of = again_create version fields of
again version (commands.EmptyList number) numbered of = again_empty number numbered
again version (commands.Attributes stream asked adjust early) numbered of = again_attributes stream asked adjust early of.0
again version _ numbered of = refl

fails_too : (version : ℕ) (packet : List ℕ) (fault : CmdFault) → FailsAs fault (meaning version packet) → FailsAs fault (meant version packet)
unfolding meant
fails_too version packet (Protocol fault) e = ap command_by e
fails_too version packet (Unknown n) e = ap command_by e
fails_too version packet (Unsupported n) e = ap command_by e
fails_too version packet NoMemory e = tt

-- what a call answered by number and fields is the command
pub means_too : (version : ℕ) (packet : List ℕ) (result : Result Command CmdFault) → Answers (λ command. (number_of command, fields_of command)) result (meaning version packet) → IfOk result IsNumbered → IfOk result (IsOfVersion version)
    → Answers (λ command. command) result (meant version packet)
unfolding meant
means_too version packet (Ok command) e numbered of = ap command_by e ∙ ap (command_or (number_of command)) (again version command numbered of)
means_too version packet (Err fault) e numbered of = fails_too version packet fault e
