-- From what clap says to what the call says.
use Rattle.std.proofs.Common.{◌≡◌, ◌∙◌, ◌≢◌, ◌≤◌, ◌⊎◌, ℕ, sym, ap, subst, inl, inr, List, [], Option, Some, None, Result, Ok, Err, IfOk, option_map, is_some, true≢false, codes}
use Rattle.std.specs.Prelude.{MatchResult}
use Rattle.clap.specs.Kinds.{IsAmong, Kinds}
use Rattle.clap.specs.Walk.{Row, first_of}
use Rattle.clap.specs.declared.error.kind.ErrorKind.{ErrorKind}
use Rattle.clap.specs.declared.error.kind.ErrorKind.TheVariants.{OutOfMemory}
use Rattle.px_app.specs.ServeCommand.{HasOptions, IsUnknown, Reads, history_of, source_of, number, rows}
use Rattle.px_app.specs.ServePlain.{Plain}
use Rattle.px_app.specs.declared.serve_words.words.ServeWords.{ServeWords}
use Rattle.px_app.specs.declared.serve_words.words.WordsFault.{WordsFault}
use Rattle.px_app.specs.declared.serve_words.words.WordsFault.TheVariants as fault
use Rattle.px_app.proofs.Plainly.{plain_read, same_said, some_same}

-- what the options call answers
abbrev pub Answers : List Row → Result ServeWords WordsFault → Type 0
Answers found r = MatchResult r (Reads found) (λ why. (why ≡ fault.NoMemory) ⊎ IsUnknown found)

positive : (found : List Row) (read : ServeWords) → HasOptions found → Reads found read → 1 ≤ read.options.accept
positive found read has reads =
    let same = some_same (ap (option_map number) (sym has.accept.1) ∙ reads.accept) in
    subst (λ n. 1 ≤ n) same has.accept.2.1

pub read_side : (Quiet : Type 0) (r : Result ServeWords WordsFault) (found words : List Row) → Quiet → found ≡ words → HasOptions found → Answers found r
    → IfOk r (λ read. Quiet × Reads words read × (1 ≤ read.options.accept))
read_side Quiet (Ok read) found words quiet same has answers = (quiet, subst (λ rs. Reads rs read) same answers, positive found read has answers)
read_side Quiet (Err why) found words quiet same has answers = tt

none_some : {X : Type 0} (x : X) (o : Option X) → o ≡ None → o ≡ Some x → ⊥
none_some x o e f = true≢false (ap is_some (sym f ∙ e))

pub plain_side : (r : Result ServeWords WordsFault) (found : List Row) (words : List (List ℕ)) (said : ServeWords) → found ≡ rows words → Answers found r → Plain words said
    → MatchResult r (λ read. read ≡ said) (λ why. why ≡ fault.NoMemory)
plain_side (Ok read) found words said same answers plain =
    same_said (rows words) read said (subst (λ rs. Reads rs read) same answers) (plain_read words said plain)
plain_side (Err why) found words said same (inl memory) plain = memory
plain_side (Err why) found words said same (inr (inr none)) plain =
    absurd (none_some said.source (source_of (first_of (codes "source") (rows words)))
    (ap (λ rs. source_of (first_of (codes "source") rs)) (sym same) ∙ none) (plain_read words said plain).source)
plain_side (Err why) found words said same (inr (inl none)) plain =
    absurd (none_some said.options.memory (history_of (first_of (codes "history") (rows words)))
    (ap (λ rs. history_of (first_of (codes "history") rs)) (sym same) ∙ none) (plain_read words said plain).history)

-- a text of the option that names no source
pub unknown_source : (found : List Row) (text : Option (List ℕ)) (why : WordsFault) → text ≡ first_of (codes "source") found
    → (why ≡ fault.NoMemory) ⊎ (source_of text ≡ None) → (why ≡ fault.NoMemory) ⊎ IsUnknown found
unknown_source found text why same (inl memory) = inl memory
unknown_source found text why same (inr none) = inr (inr (ap source_of (sym same) ∙ none))

-- a kind other than want of memory is one of the faults
pub has_fault : (kind : ErrorKind) (kinds : Kinds) → (kind ≡ OutOfMemory) ⊎ IsAmong kind kinds → kind ≢ OutOfMemory → kinds ≢ []
has_fault kind kinds (inl memory) other none = other memory
has_fault kind kinds (inr among) other none = subst (IsAmong kind) none among

abbrev why_of : {T E : Type 0} → E → Result T E → E
why_of other (Ok x) = other
why_of other (Err why) = why

pub same_why : {T E : Type 0} (a b : E) → ◌≡◌ {A = Result T E} (Err a) (Err b) → a ≡ b
same_why a b e = ap (why_of a) e
