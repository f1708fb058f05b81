-- Keys, read one after the other.
use Rattle.std.proofs.Common.{◌≡◌, ℕ, zero, suc, ◌+◌, ◌<◌, ◌≤◌, Bool, true, false, cond, eqb, List, [], ◌∷◌, ◌++◌, length, position, Option, None, Some, Result, Ok, Err, refl, sym, ap, subst, ◌∙◌, append_assoc, arith}
use Rattle.std.proofs.lemmas.List.{append-nil, length-drop}
use Rattle.px_tag.specs.declared.fault.TagFault.{TagFault}
use Rattle.px_tag.specs.declared.fault.TagFault.TheVariants.{Short, WrongTag}
use Rattle.px_tag.specs.Place.{Place, offset_of, ◌>>=◌}
use Rattle.px_tag.specs.Reading.{next_of, next_at, ended_at, string_at, text_at}
use Rattle.px_tag.proofs.Steps.{bind_ok, ok_is}
use Rattle.px_cmd.specs.declared.fault.CmdFault.{CmdFault}
use Rattle.px_cmd.specs.declared.fault.CmdFault.TheVariants.{Protocol, Unknown, Unsupported, NoMemory}
use Rattle.px_cmd.specs.Field.{keys_at}
use Rattle.px_cmd.specs.Packet.{Fails}

-- ---- a string takes a byte at least

next_of_shorter : (bytes : List ℕ) (place : Place) (b : ℕ) (after : Place) → next_of bytes place ≡ Ok (b, after) → length after.rest < length bytes
next_of_shorter [] place b after e = absurd cc
next_of_shorter (first ∷ rest) place b after e =
    let made : Place = record { size = place.size; rest = rest } in
    subst (λ (p : ℕ × Place). length p.1.rest < length (first ∷ rest)) (ok_is (first, made) (b, after) e) (omega arith)

next_shorter : (place : Place) (b : ℕ) (after : Place) → next_at place ≡ Ok (b, after) → length after.rest < length place.rest
unfolding next_at
next_shorter place b after e = next_of_shorter place.rest place b after e

ended_shorter : (found : Option ℕ) (place : Place) (bytes : List ℕ) (after : Place) → ended_at found place ≡ Ok (bytes, after) → length after.rest ≤ length place.rest
ended_shorter None place bytes after e = absurd cc
ended_shorter (Some n) place bytes after e =
    let is = ok_is _ (bytes, after) e in
    subst (λ (p : List ℕ × Place). length p.1.rest ≤ length place.rest) is (omega (arith, length-drop (n + 1) place.rest))

string_shorter : (place : Place) (bytes : List ℕ) (after : Place) → string_at place ≡ Ok (bytes, after) → length after.rest ≤ length place.rest
unfolding string_at
string_shorter place bytes after e = ended_shorter (position (λ b. eqb b 0) place.rest) place bytes after e

abbrev null_text : Place → Result (Option (List ℕ) × Place) TagFault
null_text place = Ok (None, place)

abbrev some_text : Place → Result (Option (List ℕ) × Place) TagFault
some_text place = string_at place >>= λ string. Ok (Some string.0, string.1)

text_behind : (r1 r2 : Bool) (start place : Place) (fault : TagFault) (v : Option (List ℕ)) (after : Place) → length place.rest < length start.rest
    → cond r1 (null_text place) (cond r2 (some_text place) (Err fault)) ≡ Ok (v, after) → length after.rest < length start.rest
text_behind true r2 start place fault v after less e =
    let p : Option (List ℕ) × Place = (None, place) in
    subst (λ (p : Option (List ℕ) × Place). length p.1.rest < length start.rest) (ok_is p (v, after) e) less
text_behind false true start place fault v after less e =
    let s = bind_ok (string_at place) (λ string. Ok (Some string.0, string.1)) (v, after) e in
    let p : Option (List ℕ) × Place = (Some s.0.0, s.0.1) in
    let le = string_shorter place s.0.0 s.0.1 s.1 in
    subst (λ (p : Option (List ℕ) × Place). length p.1.rest < length start.rest) (ok_is p (v, after) s.2) (omega arith)
text_behind false false start place fault v after less e = absurd cc

pub text_shorter : (place : Place) (v : Option (List ℕ)) (after : Place) → text_at place ≡ Ok (v, after) → length after.rest < length place.rest
unfolding text_at
text_shorter place v after e =
    let fault = WrongTag (offset_of place) in
    let a = bind_ok (next_at place) (λ tag. cond (eqb tag.0 0x4E) (null_text tag.1) (cond (eqb tag.0 0x74) (some_text tag.1) (Err fault))) (v, after) e in
    text_behind (eqb a.0.0 0x4E) (eqb a.0.0 0x74) place a.0.1 fault v after (next_shorter place a.0.0 a.0.1 a.1) a.2

empty_fails : (size : ℕ) (rest : List ℕ) → length rest ≤ 0 → text_at (record { size = size; rest = rest }) ≡ Err (Short size)
unfolding text_at next_at
empty_fails size [] le = refl
empty_fails size (b ∷ rest) le = absurd (omega arith)

-- ---- the loop

abbrev pub behind : List (List ℕ) → Result (List (List ℕ) × Place) TagFault → Result (List (List ℕ) × Place) TagFault
behind front read = read >>= λ others. Ok (front ++ others.0, others.1)

behind_next : (front : List (List ℕ)) (key : List ℕ) (read : Result (List (List ℕ) × Place) TagFault) → behind front (read >>= λ list. Ok (key ∷ list.0, list.1)) ≡ behind (front ++ key ∷ []) read
behind_next front key (Ok others) = ap (λ (l : List (List ℕ)). Ok (l, others.1)) (sym (append_assoc front (key ∷ []) others.0))
behind_next front key (Err fault) = refl

pub keys_end : (most : ℕ) (place : Place) (front : List (List ℕ)) (after : Place) → length place.rest ≤ most → text_at place ≡ Ok (None, after) → behind front (keys_at most place) ≡ Ok (front, after)
unfolding keys_at
keys_end zero place front after room e = absurd (omega (arith, text_shorter place None after e))
keys_end (suc most) place front after room e = rw e (ap (λ (l : List (List ℕ)). Ok (l, after)) (append-nil front))

fault_is : (f g : TagFault) → (let r : Result (Option (List ℕ) × Place) TagFault = Err f in r) ≡ Err g → f ≡ g
fault_is f g e = cc

pub keys_fail : (most : ℕ) (place : Place) (front : List (List ℕ)) (fault : TagFault) → length place.rest ≤ most → text_at place ≡ Err fault → behind front (keys_at most place) ≡ Err fault
unfolding keys_at
keys_fail zero place front fault room e = ap (λ (f : TagFault). Err f) (fault_is (Short place.size) fault (sym (empty_fails place.size place.rest room) ∙ e))
keys_fail (suc most) place front fault room e = rw e refl

pub keys_next : (most : ℕ) (place : Place) (front : List (List ℕ)) (key : List ℕ) (after : Place) → length place.rest ≤ most → text_at place ≡ Ok (Some key, after)
    → (fewer : ℕ) × (length after.rest ≤ fewer) × (behind front (keys_at most place) ≡ behind (front ++ key ∷ []) (keys_at fewer after))
unfolding keys_at
keys_next zero place front key after room e = absurd (omega (arith, text_shorter place (Some key) after e))
keys_next (suc most) place front key after room e = (most, omega (arith, text_shorter place (Some key) after e), rw e (behind_next front key (keys_at most after)))

pub keys_start : (read : Result (List (List ℕ) × Place) TagFault) → behind [] read ≡ read
keys_start (Ok others) = refl
keys_start (Err fault) = refl

-- what is known in the loop, and how it ends at a fault
pub keys_fails : (most : ℕ) (place : Place) (front : List (List ℕ)) (total : Result (List (List ℕ) × Place) TagFault) (fault : CmdFault) → length place.rest ≤ most → behind front (keys_at most place) ≡ total → Fails fault (text_at place) → Fails fault total
keys_fails most place front total (Protocol fault) room so_far e = sym so_far ∙ keys_fail most place front fault room e
keys_fails most place front total (Unknown command) room so_far e = e
keys_fails most place front total (Unsupported command) room so_far e = e
keys_fails most place front total NoMemory room so_far e = tt
