-- A library's calls along a log, by what is known at each, and how they come apart at the log's first entry.
use Rattle.trio_order.proofs.Words.{if◌then◌else◌, ◌++◌, ◌==◌, ◌∙◌, ◌∷◌, ◌≡◌, ◌≢◌, Along, AreBack, Ask, Bool, Call, Entry, GiveBack, Happens, Kept, Known, LibNo, List, ModeSet, None, Option, ReplaysFrom, Settled, Shown, Some, State, Told, [], all_back, all_parts, answer_of, ap, append_assoc, back_entries, backs_of, beside_of, entries_told, eq-eqb, event_of, filter-append, given_back, handed_back, inl, inr, known, known_after, known_from, made_by, maker, map, option_to_list, refl, step_kept, steps_are_known, subst, sym, ℕ}
use Rattle.std.proofs.lemmas.Bool.{cases_Bool, eqb-true, false≢true}
use Rattle.trio_nodes.specs.declared.entry.Entry.TheVariants.{Grant as GrantEntry, Allot as AllotEntry, Back, Raw, Batch, Mode}
use Rattle.trio_desk.specs.Call.{Grant, Allot, Release, Settle, SetMode}
use Rattle.trio_laws.specs.Laws.{library_of}
use Rattle.trio_laws.specs.history.Entries as entries
use Rattle.trio_ctl.proofs.LeasesBack.{backs_kept}
use Rattle.trio_order.specs.Order.{back_call, parts_of}
use Rattle.trio_order.proofs.Standing.{back_kept, back_known}
use Rattle.trio_order.proofs.Again.{entry_tells}
use Rattle.trio_order.proofs.Redone.{beside_is, entry_made}

-- ---- what is known after entries

pub known_append : (k : Known) (xs ys : List Entry) → known_from k (xs ++ ys) ≡ known_from (known_from k xs) ys
known_append k [] ys = refl
known_append k (e ∷ es) ys = known_append (known_after k (entries.event_of e) (entries.answer_of e)) es ys

pub kept_through : (s : State) (log : List Entry) (t : State) → Kept s → ReplaysFrom s log t → Kept t
kept_through s [] t k r = subst Kept (sym r) k
kept_through s (e ∷ es) t k r = kept_through r.0 es t (step_kept s r.0 (entries.event_of e) (entries.answer_of e) k r.2 r.3) r.4

pub known_through : (s : State) (log : List Entry) (t : State) → Kept s → ReplaysFrom s log t → known t ≡ known_from (known s) log
known_through s [] t k r = ap known r
known_through s (e ∷ es) t k r =
    known_through r.0 es t (step_kept s r.0 (entries.event_of e) (entries.answer_of e) k r.2 r.3) r.4
    ∙ ap (λ (z : Known). known_from z es) (steps_are_known s (entries.event_of e) (entries.answer_of e) r.0 k r.3)

-- ---- whose entries they are

pub whose : (e : Entry) → library_of (entries.event_of e) ≡ maker e
whose (GrantEntry lib ino kind answer) = refl
whose (AllotEntry lib pages inodes answer) = refl
whose (Back lib ino) = refl
whose (Raw lib verdict files bundle) = refl
whose (Batch lib calls handed) = refl
whose (Mode lib ino mode answer call) = refl

asks_own : (lib : LibNo) (ask : Ask) → library_of (event_of lib ask) ≡ lib.0
asks_own lib (Grant ino kind) = refl
asks_own lib (Allot pages numbers) = refl
asks_own lib (GiveBack lease) = refl
asks_own lib (Release parcel) = refl
asks_own lib (Settle parcel back calls) = refl
asks_own lib (SetMode ino mode back call) = refl

-- an entry before entries of others is one of another
pub of_another : (l : ℕ) (e : Entry) (es : List Entry) → made_by l (e ∷ es) ≡ [] → (maker e ≢ l) × (made_by l es ≡ [])
of_another l e es none =
    elim (cases_Bool (maker e == l)) [
      | inl same ↦ (let wrong : e ∷ made_by l es ≡ [] = subst (λ (b : Bool). (if b then e ∷ made_by l es else made_by l es) ≡ []) same none in absurd (cc wrong))
      | inr other ↦ (
        λ same. false≢true (sym other ∙ eq-eqb (maker e) l same),
        subst (λ (b : Bool). (if b then e ∷ made_by l es else made_by l es) ≡ []) other none,
      )
    ]

-- and of another in front
pub none_more : (l : ℕ) (e : Entry) (es : List Entry) → maker e ≢ l → made_by l es ≡ [] → made_by l (e ∷ es) ≡ []
none_more l e es other none =
    elim (cases_Bool (maker e == l)) [
      | inl same ↦ absurd (other (eqb-true (maker e) l same))
      | inr apart ↦ subst (λ (b : Bool). (if b then e ∷ made_by l es else made_by l es) ≡ []) (sym apart) none
    ]

pub none_both : (l : ℕ) (xs ys : List Entry) → made_by l xs ≡ [] → made_by l ys ≡ [] → made_by l (xs ++ ys) ≡ []
none_both l xs ys a b = filter-append (λ (e : Entry). maker e == l) xs ys ∙ ap (λ r. r ++ made_by l ys) a ∙ b

-- ---- a course by what is known

-- a call that makes this entry or none, and gives no lease back in it, happened where just this was known
pub record Fact (k : Known) (lib : LibNo) (c : Call) (o : Option Entry) : Type 0 where
  pub before : State
  pub after : State
  pub kept : Kept before
  pub found : known before ≡ k
  pub did : Happens before lib c.ask c.told after
  pub simple : backs_of c.ask c.told ≡ []
  pub entry : entry_made before lib c.ask c.told ≡ o
  pub left : known after ≡ known_from (known before) (option_to_list o)

-- the next call, behind entries of others
pub record Next (k : Known) (lib : LibNo) (log : List Entry) (c : Call) (Then : Known → List Entry → Type 0) : Type 0 where
  pub others : List Entry
  pub later : List Entry
  pub entry : Option Entry
  pub log_is : log ≡ others ++ (option_to_list entry ++ later)
  pub not_its_own : made_by lib.0 others ≡ []
  pub fact : Fact (known_from k others) lib c entry
  pub rest : Then (known_from (known_from k others) (option_to_list entry)) later

abbrev pub Course : Known → LibNo → List Entry → List Call → Type 0
Course k lib log [] = made_by lib.0 log ≡ []
Course k lib log (c ∷ calls) = Next k lib log c (λ k' log'. Course k' lib log' calls)

behind_others : (k : Known) (lib : LibNo) (others log : List Entry) (calls : List Call) → made_by lib.0 others ≡ [] → Course (known_from k others) lib log calls → Course k lib (others ++ log) calls
behind_others k lib others log [] none c = none_both lib.0 others log none c
behind_others k lib others log (c ∷ calls) none n =
    let place = sym (known_append k others n.others) in
    record {
      others = others ++ n.others;
      later = n.later;
      entry = n.entry;
      log_is = ap (λ l. others ++ l) n.log_is ∙ sym (append_assoc others n.others (option_to_list n.entry ++ n.later));
      not_its_own = none_both lib.0 others n.others none n.not_its_own;
      fact = subst (λ x. Fact x lib c n.entry) place n.fact;
      rest = subst (λ x. Course (known_from x (option_to_list n.entry)) lib n.later calls) place n.rest;
    }

here : (k : Known) (lib : LibNo) (c : Call) (o : Option Entry) (log : List Entry) (calls : List Call) → Fact k lib c o → Course (known_from k (option_to_list o)) lib log calls → Course k lib (option_to_list o ++ log) (c ∷ calls)
here k lib c o log calls fact more = record { others = []; later = log; entry = o; log_is = refl; not_its_own = refl; fact = fact; rest = more }

-- ---- a call, in its parts

module _ (lib : LibNo) (log : List Entry) (calls : List Call) where
  behind_backs : (s : State) (back : List Shown) (es : List Entry) (cs : List Call) → Kept s → AreBack s lib back → Course (known (all_back s lib back)) lib es cs → Course (known s) lib (back_entries lib back ++ es) (map back_call back ++ cs)
  behind_backs s [] es cs k a c = c
  behind_backs s (f ∷ fs) es cs k a c =
      let given : State = given_back s lib.0 f.ino in
      let is : known given ≡ known_after (known s) (event_of lib (GiveBack f)) (answer_of (back_call f).told) = back_known s lib.0 f.ino k in
      let fact : Fact (known s) lib (back_call f) (Some (Back lib f.ino)) = record {
        before = s;
        after = given;
        kept = k;
        found = refl;
        did = record { back = tt; given = a.0; is_step = inl (refl, refl); lease = tt };
        simple = refl;
        entry = refl;
        left = is;
      } in
      here (known s) lib (back_call f) (Some (Back lib f.ino)) (back_entries lib fs ++ es) (map back_call fs ++ cs) fact
      (subst (λ x. Course x lib (back_entries lib fs ++ es) (map back_call fs ++ cs)) is (behind_backs given fs es cs (back_kept s lib.0 f.ino k a.0) a.1 c))

  backs_known : (s : State) (back : List Shown) → Kept s → AreBack s lib back → known (all_back s lib back) ≡ known_from (known s) (back_entries lib back)
  backs_known s [] k a = refl
  backs_known s (f ∷ fs) k a =
      backs_known (given_back s lib.0 f.ino) fs (back_kept s lib.0 f.ino k a.0) a.1
      ∙ ap (λ (x : Known). known_from x (back_entries lib fs)) (back_known s lib.0 f.ino k)

  -- what a call leaves goes by its entries
  abbrev IsLeft : State → Ask → Told → State → Type 0
  IsLeft s ask told s' = known s' ≡ known_from (known s) (entries_told s lib ask told)

  abbrev Parts : State → Ask → Told → List Call → Type 0
  Parts s ask told cs = Course (known s) lib (entries_told s lib ask told ++ log) (cs ++ calls)

  alone : (s : State) (ask : Ask) (told : Told) (s' : State) → Kept s → Happens s lib ask told s' → backs_of ask told ≡ [] → IsLeft s ask told s' → Course (known s') lib log calls → Parts s ask told (record { ask = ask; told = told } ∷ [])
  alone s ask told s' k h simple left c =
      let o = entry_made s lib ask told in
      let is : entries_told s lib ask told ≡ option_to_list o = ap (λ bs. back_entries lib bs ++ option_to_list o) simple in
      let left' : known s' ≡ known_from (known s) (option_to_list o) = left ∙ ap (known_from (known s)) is in
      subst (λ l. Course (known s) lib (l ++ log) (record { ask = ask; told = told } ∷ calls)) (sym is)
      (here (known s) lib (record { ask = ask; told = told }) o log calls
      (record { before = s; after = s'; kept = k; found = refl; did = h; simple = simple; entry = refl; left = left' })
      (subst (λ x. Course x lib log calls) left' c))

  -- a call once its leases are given back
  after_backs : (s : State) (back : List Shown) (ask : Ask) (told : Told) (s' : State) → Kept s → AreBack s lib back → Happens (all_back s lib back) lib ask told s' → backs_of ask told ≡ []
      → known s' ≡ known_from (known s) (back_entries lib back ++ entries_told (all_back s lib back) lib ask told) → Course (known s') lib log calls
      → Course (known s) lib ((back_entries lib back ++ entries_told (all_back s lib back) lib ask told) ++ log) ((map back_call back ++ record { ask = ask; told = told } ∷ []) ++ calls)
  after_backs s back ask told s' k a h simple left c =
      let u : State = all_back s lib back in
      let es : List Entry = entries_told u lib ask told in
      let one : List Call = record { ask = ask; told = told } ∷ [] in
      let left' : IsLeft u ask told s' = left ∙ known_append (known s) (back_entries lib back) es ∙ ap (λ (x : Known). known_from x es) (sym (backs_known s back k a)) in
      subst (λ l. Course (known s) lib l ((map back_call back ++ one) ++ calls)) (sym (append_assoc (back_entries lib back) es log))
      (subst (λ cs. Course (known s) lib (back_entries lib back ++ (es ++ log)) cs) (sym (append_assoc (map back_call back) one calls))
      (behind_backs s back (es ++ log) (one ++ calls) k a (alone u ask told s' (backs_kept s lib back k a) h simple left' c)))

  in_parts : (s : State) (ask : Ask) (told : Told) (s' : State) → Kept s → Happens s lib ask told s' → IsLeft s ask told s' → Course (known s') lib log calls → Parts s ask told (parts_of ask told)
  in_parts s (Settle parcel back cs) Settled s' k h left c =
      after_backs s back (Settle parcel [] cs) Settled s' k h.back (record { back = tt; given = h.given; is_step = h.is_step; lease = tt }) refl left c
  in_parts s (SetMode ino mode back call) ModeSet s' k h left c =
      after_backs s back (SetMode ino mode [] call) ModeSet s' k h.back (record { back = tt; given = h.given; is_step = h.is_step; lease = tt }) refl left c
  in_parts s ask told s' k h left c = alone s ask told s' k h refl left c

-- calls along a log are a course, each in its parts
pub along_course : (first : State) (lib : LibNo) (seen log : List Entry) (calls : List Call) → Kept first → Along first lib seen log calls → Course (known_from (known first) seen) lib log (all_parts calls)
along_course first lib seen log [] k a = a
along_course first lib seen log (c ∷ calls) k a =
    let es : List Entry = entries_told a.before lib c.ask c.told in
    let at = known_through first (seen ++ a.others) a.before k a.found in
    let after = known_through first ((seen ++ a.others) ++ es) a.after k a.left in
    let left : known a.after ≡ known_from (known a.before) es = after ∙ known_append (known first) (seen ++ a.others) es ∙ ap (λ (x : Known). known_from x es) (sym at) in
    let rest : Course (known a.after) lib a.later (all_parts calls) =
    subst (λ x. Course x lib a.later (all_parts calls)) (sym after) (along_course first lib ((seen ++ a.others) ++ es) a.later calls k a.rest) in
    let all : List Call = parts_of c.ask c.told ++ all_parts calls in
    let parts : Course (known a.before) lib (es ++ a.later) all =
    in_parts lib a.later (all_parts calls) a.before c.ask c.told a.after (kept_through first (seen ++ a.others) a.before k a.found) a.did left rest in
    subst (λ l. Course (known_from (known first) seen) lib l all) (sym a.log_is)
    (behind_others (known_from (known first) seen) lib a.others (es ++ a.later) all a.not_its_own
    (subst (λ x. Course x lib (es ++ a.later) all) (at ∙ known_append (known first) seen a.others) parts))

-- ---- it comes apart at the log's first entry

-- calls that make no entry, where this is known
abbrev pub AreQuiet : Known → LibNo → List Call → Type 0
AreQuiet k lib [] = Unit {0}
AreQuiet k lib (c ∷ calls) = Fact k lib c None × AreQuiet k lib calls

-- the call that makes the entry, where it is the library's
pub data Own (k : Known) (lib : LibNo) (e : Entry) (calls : List Call) : Type 0 where
  Its : (c : Call) → maker e ≡ lib.0 → calls ≡ c ∷ [] → Fact k lib c (Some e) → Own k lib e calls
  NotIts : maker e ≢ lib.0 → calls ≡ [] → Own k lib e calls

-- the calls before an entry, the one that makes it, and those after it
pub record Cut (k : Known) (lib : LibNo) (e : Entry) (log : List Entry) (calls : List Call) : Type 0 where
  pub now : List Call
  pub its : List Call
  pub tail : List Call
  pub parts : calls ≡ now ++ (its ++ tail)
  pub quiet : AreQuiet k lib now
  pub own : Own k lib e its
  pub later : Course (known_after k (entries.event_of e) (entries.answer_of e)) lib log tail

maker_is : (k : Known) (lib : LibNo) (c : Call) (e : Entry) → Fact k lib c (Some e) → maker e ≡ lib.0
maker_is k lib c e f =
    let tells = entry_tells (all_back f.before lib (handed_back c.ask)) (beside_of c.ask) (event_of lib c.ask) (answer_of c.told) e (beside_is lib c.ask) f.entry in
    sym (whose e) ∙ ap library_of tells.event_is ∙ asks_own lib c.ask

cut_at : (k : Known) (lib : LibNo) (e : Entry) (log : List Entry) (c : Call) (calls : List Call) (others : List Entry) (o : Option Entry) (later : List Entry)
    → e ∷ log ≡ others ++ (option_to_list o ++ later) → made_by lib.0 others ≡ [] → Fact (known_from k others) lib c o
    → Course (known_from (known_from k others) (option_to_list o)) lib later calls
    → (Course k lib (e ∷ log) calls → Cut k lib e log calls) → Cut k lib e log (c ∷ calls)
cut_at k lib e log c calls [] None later is none fact more again =
    let rest = again (subst (λ l. Course k lib l calls) (sym is) more) in
    record {
      now = c ∷ rest.now;
      its = rest.its;
      tail = rest.tail;
      parts = ap (λ cs. c ∷ cs) rest.parts;
      quiet = (fact, rest.quiet);
      own = rest.own;
      later = rest.later;
    }
cut_at k lib e log c calls [] (Some x) later is none fact more again =
    let same : x ≡ e = cc is in
    let rest : later ≡ log = cc is in
    let its : Fact k lib c (Some e) = subst (λ y. Fact k lib c (Some y)) same fact in
    record {
      now = [];
      its = c ∷ [];
      tail = calls;
      parts = refl;
      quiet = tt;
      own = Its c (maker_is k lib c e its) refl its;
      later = subst (λ y. Course (known_after k (entries.event_of y) (entries.answer_of y)) lib log calls) same
          (subst (λ l. Course (known_after k (entries.event_of x) (entries.answer_of x)) lib l calls) rest more);
    }
cut_at k lib e log c calls (y ∷ ys) o later is none fact more again =
    let same : y ≡ e = cc is in
    let rest : log ≡ ys ++ (option_to_list o ++ later) = cc is in
    let other = of_another lib.0 y ys none in
    record {
      now = [];
      its = [];
      tail = c ∷ calls;
      parts = refl;
      quiet = tt;
      own = NotIts (λ mine. other.0 (ap maker same ∙ mine)) refl;
      later = subst (λ x. Course (known_after k (entries.event_of x) (entries.answer_of x)) lib log (c ∷ calls)) same
          (record { others = ys; later = later; entry = o; log_is = rest; not_its_own = other.1; fact = fact; rest = more });
    }

pub cut : (k : Known) (lib : LibNo) (e : Entry) (log : List Entry) (calls : List Call) → Course k lib (e ∷ log) calls → Cut k lib e log calls
cut k lib e log [] a =
    let other = of_another lib.0 e log a in
    record { now = []; its = []; tail = []; parts = refl; quiet = tt; own = NotIts other.0 refl; later = other.1 }
cut k lib e log (c ∷ calls) n = cut_at k lib e log c calls n.others n.entry n.later n.log_is n.not_its_own n.fact n.rest (cut k lib e log calls)

-- ---- where the log ends, only such calls are left

quiet_at : (k : Known) (lib : LibNo) (c : Call) (calls : List Call) (others : List Entry) (o : Option Entry) (later : List Entry)
    → [] ≡ others ++ (option_to_list o ++ later) → Fact (known_from k others) lib c o → Course (known_from (known_from k others) (option_to_list o)) lib later calls
    → (Course k lib [] calls → AreQuiet k lib calls) → AreQuiet k lib (c ∷ calls)
quiet_at k lib c calls [] None later is fact more again = (fact, again (subst (λ l. Course k lib l calls) (sym is) more))
quiet_at k lib c calls [] (Some x) later is fact more again = absurd (cc is)
quiet_at k lib c calls (y ∷ ys) o later is fact more again = absurd (cc is)

pub all_quiet : (k : Known) (lib : LibNo) (calls : List Call) → Course k lib [] calls → AreQuiet k lib calls
all_quiet k lib [] a = tt
all_quiet k lib (c ∷ calls) n = quiet_at k lib c calls n.others n.entry n.later n.log_is n.fact n.rest (all_quiet k lib calls)
