-- The entries that calls of a library make, whatever state each of them finds.
use Rattle.trio_runner.proofs.Words.{◌++◌, ◌∙◌, ◌∷◌, ◌≡◌, Allot, AreMoves, Ask, Back, Batch, Bool, BusyMode, Call, Calls, Entry, GiveBack, Grant, In, In-cases, LibNo, List, ModeSet, Move, None, NotModeSet, Noted, Notes, Ok, Option, Release, SetMode, Settle, Settled, Shown, Some, State, Told, [], all_back, answer_of, ap, apart, append-nil, append_assoc, back_call, back_entries, backs_of, beside_of, bundled_of, cond, entries_by, entries_of, entries_told, eq-eqb, eqb, event_of, filter, filter-append, filter-none, handed_back, inl, inr, made_by, maker, map, ne_eqb, refl, subst, sym, true, whose, with_calls}
use Rattle.std.specs.Option.{option_to_list}
use Rattle.trio_nodes.specs.declared.entry.Entry.TheVariants.{Mode}
use Rattle.trio_laws.specs.Laws.{library_of}
use Rattle.trio_laws.specs.history.Entries.{entry_of, event_of as event_told}
use Rattle.trio_order.proofs.Again.{entry_tells}
use Rattle.trio_order.proofs.Redone.{beside_is}
use Rattle.trio_runner.proofs.Moves.{entries_joined, moves_joined, moves_parted}

-- ---- whose they are

-- these entries are all of the library
abbrev pub AreBy : LibNo → List Entry → Type 0
AreBy lib es = (e : Entry) → In e es → library_of (event_told e) ≡ lib.0

by_both : (lib : LibNo) (es fs : List Entry) → AreBy lib es → AreBy lib fs → AreBy lib (es ++ fs)
by_both lib es fs a b e i = elim (In-cases e es fs i) [ inl j ↦ a e j | inr j ↦ b e j ]

backs_by : (lib : LibNo) (back : List Shown) → AreBy lib (back_entries lib back)
backs_by lib [] e i = absurd i
backs_by lib (f ∷ fs) e i = elim i [ inl same ↦ ap (λ (y : Entry). library_of (event_told y)) same | inr j ↦ backs_by lib fs e j ]

asks_own : (lib : LibNo) (ask : Ask) → library_of (event_of lib ask) ≡ lib.0
asks_own lib (Grant ino kind) = refl
asks_own lib (Allot pages numbers) = refl
asks_own lib (GiveBack lease) = refl
asks_own lib (Release parcel) = refl
asks_own lib (Settle parcel back calls) = refl
asks_own lib (SetMode ino mode back call) = refl

one_by : (lib : LibNo) (o : Option Entry) → ((e : Entry) → o ≡ Some e → library_of (event_told e) ≡ lib.0) → AreBy lib (option_to_list o)
one_by lib None own e i = absurd i
one_by lib (Some x) own e i = elim i [ inl same ↦ ap (λ (y : Entry). library_of (event_told y)) same ∙ own x refl | inr none ↦ absurd none ]

-- those of a call are its library's
pub told_by : (s : State) (lib : LibNo) (ask : Ask) (told : Told) → AreBy lib (entries_told s lib ask told)
told_by s lib ask told =
    let t : State = all_back s lib (handed_back ask) in
    let o : Option Entry = entry_of t (beside_of ask) (event_of lib ask) (answer_of told) in
    by_both lib (back_entries lib (backs_of ask told)) (option_to_list o) (backs_by lib (backs_of ask told))
    (one_by lib o (λ e is. ap library_of (entry_tells t (beside_of ask) (event_of lib ask) (answer_of told) e (beside_is lib ask) is).event_is ∙ asks_own lib ask))

pub moves_by : (lib : LibNo) (calls : List Call) (moves : List Move) → AreBy lib (entries_of lib calls moves)
moves_by lib [] moves e i = absurd i
moves_by lib (c ∷ calls) [] e i = absurd i
moves_by lib (c ∷ calls) (m ∷ moves) e i =
    by_both lib (entries_told m.before lib c.ask c.told) (entries_of lib calls moves) (told_by m.before lib c.ask c.told) (moves_by lib calls moves) e i

filter-all : {X : Type 0} (p : X → Bool) (xs : List X) → ((x : X) → In x xs → p x ≡ true) → filter p xs ≡ xs
filter-all p [] h = refl
filter-all p (x ∷ xs) h = ap (λ t. cond t (x ∷ filter p xs) (filter p xs)) (h x (inl refl)) ∙ ap (λ l. x ∷ l) (filter-all p xs (λ y i. h y (inr i)))

pub by_own : (lib : LibNo) (es : List Entry) → AreBy lib es → entries_by lib es ≡ es
by_own lib es own = filter-all (λ e. eqb (library_of (event_told e)) lib.0) es (λ e i. eq-eqb (library_of (event_told e)) lib.0 (own e i))

pub by_other : (lib other : LibNo) (es : List Entry) → AreBy lib es → (lib.0 ≡ other.0 → ⊥) → entries_by other es ≡ []
by_other lib other es own apart = filter-none (λ e. eqb (library_of (event_told e)) other.0) es (λ e i. ne_eqb (library_of (event_told e)) other.0 (λ q. apart (sym (own e i) ∙ q)))

pub by-append : (lib : LibNo) (es fs : List Entry) → entries_by lib (es ++ fs) ≡ entries_by lib es ++ entries_by lib fs
by-append lib es fs = filter-append (λ e. eqb (library_of (event_told e)) lib.0) es fs

-- a library's entries are those that it made
pub by_made : (lib : LibNo) (es : List Entry) → entries_by lib es ≡ made_by lib.0 es
by_made lib [] = refl
by_made lib (e ∷ es) =
    ap (λ n. cond (eqb n lib.0) (e ∷ entries_by lib es) (entries_by lib es)) (whose e)
    ∙ ap (λ l. cond (eqb (maker e) lib.0) (e ∷ l) l) (by_made lib es)

-- ---- those of calls

-- these calls make these entries, one after another, each from some state
abbrev pub Make : LibNo → List Call → List Entry → Type 0
Make lib [] es = es ≡ []
Make lib (c ∷ calls) es = (s : State) × (rest : List Entry) × Make lib calls rest × (es ≡ entries_told s lib c.ask c.told ++ rest)

-- calls, and others after them
pub make_parted : (lib : LibNo) (first later : List Call) (es : List Entry) → Make lib (first ++ later) es → (fs : List Entry) × (ls : List Entry) × Make lib first fs × Make lib later ls × (es ≡ fs ++ ls)
make_parted lib [] later es m = ([], es, refl, m, refl)
make_parted lib (c ∷ first) later es m =
    let own : List Entry = entries_told m.0 lib c.ask c.told in
    let rest = make_parted lib first later m.1 m.2 in
    (own ++ rest.0, rest.1, (m.0, rest.0, rest.2, refl), rest.3, m.3 ∙ ap (λ l. own ++ l) rest.4 ∙ sym (append_assoc own rest.0 rest.1))

-- one call alone
pub one_make : (lib : LibNo) (c : Call) (es : List Entry) → Make lib (c ∷ []) es → (P : List Entry → Type 0) → ((t : State) → P (entries_told t lib c.ask c.told)) → P es
one_make lib c es m P h =
    let own : List Entry = entries_told m.0 lib c.ask c.told in
    subst P (sym (m.3 ∙ ap (λ l. own ++ l) m.2 ∙ append-nil own)) (h m.0)

pub moves_make : (lib : LibNo) (s : State) (calls : List Call) (moves : List Move) (s' : State) → AreMoves lib s calls moves s' → Make lib calls (entries_of lib calls moves)
moves_make lib s [] moves s' a = refl
moves_make lib s (c ∷ calls) [] s' a = absurd a
moves_make lib s (c ∷ calls) (m ∷ moves) s' a = (m.before, entries_of lib calls moves, moves_make lib m.after calls moves s' a.2, refl)

-- ---- those of a call, apart

backs_apart : (lib : LibNo) (s : State) (back : List Shown) (moves : List Move) (s' : State) → AreMoves lib s (map back_call back) moves s' → entries_of lib (map back_call back) moves ≡ back_entries lib back
backs_apart lib s [] moves s' a = refl
backs_apart lib s (f ∷ fs) [] s' a = absurd a
backs_apart lib s (f ∷ fs) (m ∷ moves) s' a = ap (λ l. Back lib f.ino ∷ l) (backs_apart lib m.after fs moves s' a.2)

-- a call behind read leases that are given back, which makes the same entries from any state
behind_backs : (lib : LibNo) (s : State) (back : List Shown) (c : Call) (es : List Entry) (moves : List Move) (s' : State) → ((t : State) → entries_told t lib c.ask c.told ≡ es) → AreMoves lib s (map back_call back ++ c ∷ []) moves s'
    → entries_of lib (map back_call back ++ c ∷ []) moves ≡ back_entries lib back ++ es
behind_backs lib s back c es moves s' same a =
    let p = moves_parted lib s (map back_call back) (c ∷ []) moves s' a in
    let later : List Entry = entries_of lib (c ∷ []) p.later_moves in
    let one : later ≡ es = one_make lib c later (moves_make lib p.middle (c ∷ []) p.later_moves s' p.after) (λ l. l ≡ es) same in
    p.entries ∙ ap (λ l. l ++ later) (backs_apart lib s back p.first_moves p.middle p.before) ∙ ap (λ l. back_entries lib back ++ l) one

-- the moves of a call make the entries of the call
apart_make : (lib : LibNo) (s : State) (ask : Ask) (told : Told) (moves : List Move) (s' : State) → AreMoves lib s (apart ask told) moves s' → (t : State) × (entries_of lib (apart ask told) moves ≡ entries_told t lib ask told)
apart_make lib s (Settle parcel back calls) Settled moves s' a =
    (s, behind_backs lib s back (record { ask = Settle parcel [] calls; told = Settled }) (Batch lib calls ((with_calls (bundled_of parcel) calls).handed) ∷ []) moves s' (λ t. refl) a)
apart_make lib s (SetMode ino mode back call) ModeSet moves s' a =
    (s, behind_backs lib s back (record { ask = SetMode ino mode [] call; told = ModeSet }) (Mode lib ino mode (Ok tt) call ∷ []) moves s' (λ t. refl) a)
apart_make lib s (SetMode ino mode back call) (NotModeSet (BusyMode holder)) moves s' a = (s, refl)
apart_make lib s ask told moves s' a =
    let c : Call = record { ask = ask; told = told } in
    one_make lib c (entries_of lib (c ∷ []) moves) (moves_make lib s (c ∷ []) moves s' a) (λ es. (t : State) × (es ≡ entries_told t lib ask told)) (λ t. (t, refl))

-- ---- a desk that makes entries

-- each call of the desk makes the entries that tell of it, from some state
abbrev pub Makes : {D : Type 0} → LibNo → (D → Ask → Told → D → Type 0) → (D → List Entry → Type 0) → Type 0
Makes {D} lib called Made =
    (d : D) (es : List Entry) (ask : Ask) (told : Told) (d' : D) → Made d es → called d ask told d' → (s : State) × Made d' (es ++ entries_told s lib ask told)

module _ {D : Type 0} (lib : LibNo) (called : D → Ask → Told → D → Type 0) (Made : D → List Entry → Type 0) (makes : Makes lib called Made) where
  pub calls_make : (cs : List Call) (d d' : D) (es : List Entry) → Made d es → Calls called d cs d' → (more : List Entry) × Make lib cs more × Made d' (es ++ more)
  calls_make [] d d' es m made = ([], refl, subst (λ x. Made x (es ++ [])) (sym made) (subst (Made d) (sym (append-nil es)) m))
  calls_make (c ∷ cs) d d' es m made =
      let one = makes d es c.ask c.told made.0 m made.1 in
      let own : List Entry = entries_told one.0 lib c.ask c.told in
      let rest = calls_make cs made.0 d' (es ++ own) one.1 made.2 in
      (own ++ rest.0, (one.0, rest.0, rest.1, refl), subst (Made d') (append_assoc es own rest.0) rest.2)

-- the notes since a state are moves, with these entries
abbrev pub Since : LibNo → State → Noted → List Entry → Type 0
Since lib s d es = AreMoves lib s d.calls d.moves d.state × (entries_of lib d.calls d.moves ≡ es)

pub notes_make : (lib : LibNo) (s : State) → Makes lib (Notes lib) (Since lib s)
notes_make lib s d es ask told d' m n =
    let one = apart_make lib d.state ask told n.more d'.state n.are_moves in
    let moves : AreMoves lib s d'.calls d'.moves d'.state =
    subst (λ (cs : List Call). AreMoves lib s cs d'.moves d'.state) (sym n.calls_are)
    (subst (λ ms. AreMoves lib s (d.calls ++ apart ask told) ms d'.state) (sym n.moves_are)
    (moves_joined lib s d.calls (apart ask told) d.moves n.more d.state d'.state m.0 n.are_moves)) in
    let entries : entries_of lib d'.calls d'.moves ≡ es ++ entries_told one.0 lib ask told =
    ap (λ (cs : List Call). entries_of lib cs d'.moves) n.calls_are ∙ ap (entries_of lib (d.calls ++ apart ask told)) n.moves_are
    ∙ entries_joined lib s d.calls (apart ask told) d.moves n.more d.state m.0
    ∙ ap (λ l. l ++ entries_of lib (apart ask told) n.more) m.1 ∙ ap (λ l. es ++ l) one.1 in
    (one.0, (moves, entries))
