-- What the give backs of read leases, one after another, leave and change.
use Rattle.trio_ctl.proofs.Words.{if◌then◌else◌, ◌&&◌, ◌++◌, ◌+◌, ◌==◌, ◌||◌, ◌∙◌, ◌∷◌, ◌≡◌, ◌≤◌, AreAsTold, AreBack, AreLent, Back, Bool, Done, Entry, HasGrant, In, In-filter, In-map, Kept, LibNo, List, Logged, OpenGrant, Option, OutAlike, Read, Registered, Shown, Some, State, Step, [], all_back, ap, append_assoc, are_new-first, arith, back_entries, cases_Bool, eq-eqb, eqb-false, eqb-true, false, false≢true, filter, find, given_back, hold_of, inl, inr, is_among, is_back, is_hold, is_read, is_write, length, length-append, list_any, map, ne_eqb, nodes_of, not, not_from_false, out_of, refl, reverse, shown_of, step_kept, subst, sym, true, without_reads, write_is, ℕ}
use Rattle.std.proofs.lemmas.List.{reverse-append}
use Rattle.trio_lists.proofs.Filters.{filter-same}
use Rattle.trio_nodes.specs.declared.entry.Entry.TheVariants.{Back as Back_entry}
use Rattle.trio_laws.proofs.history.BackStep.{back_nodes}
use Rattle.trio_ctl.proofs.DeskGiven.{read_by}
use Rattle.trio_ctl.proofs.DeskOuts.{back_out, hold_is, seen-all, seen-left}
use Rattle.trio_ctl.proofs.Told.{step_told}

eqb-swap : (a b : ℕ) → (a == b) ≡ (b == a)
eqb-swap a b =
    elim (cases_Bool (a == b)) [
      | inl t ↦ t ∙ sym (eq-eqb b a (sym (eqb-true a b t)))
      | inr f ↦ f ∙ sym (ne_eqb b a (λ e. eqb-false a b f (sym e)))
    ]

-- ---- filters

fuse_step : {X : Type 0} (x : X) (rest both : List X) (p q : Bool) → rest ≡ both → (if q then (if p then x ∷ rest else rest) else rest) ≡ (if q && p then x ∷ both else both)
fuse_step x rest both true true e = ap (λ l. x ∷ l) e
fuse_step x rest both false true e = e
fuse_step x rest both p false e = e

filter_step : {X : Type 0} (p : X → Bool) (x : X) (xs : List X) (q : Bool) → filter p (if q then x ∷ xs else xs) ≡ (if q then (if p x then x ∷ filter p xs else filter p xs) else filter p xs)
filter_step p x xs true = refl
filter_step p x xs false = refl

-- one filter after another is one of both tests
pub filter-fused : {X : Type 0} (p q : X → Bool) (xs : List X) → filter p (filter q xs) ≡ filter (λ x. q x && p x) xs
filter-fused p q [] = refl
filter-fused p q (x ∷ xs) = filter_step p x (filter q xs) (q x) ∙ fuse_step x (filter p (filter q xs)) (filter (λ x. q x && p x) xs) (p x) (q x) (filter-fused p q xs)

find_step : {X : Type 0} (p : X → Bool) (x : X) (xs : List X) (t q : Bool) (both : Option X) → p x ≡ t → find p xs ≡ both → find p (if q then x ∷ xs else xs) ≡ (if t && q then Some x else both)
find_step p x xs true true both e h = ap (λ t. if t then Some x else find p xs) e
find_step p x xs false true both e h = ap (λ t. if t then Some x else find p xs) e ∙ h
find_step p x xs true false both e h = h
find_step p x xs false false both e h = h

-- the first of those that another test keeps
pub find-fused : {X : Type 0} (p q : X → Bool) (xs : List X) → find p (filter q xs) ≡ find (λ x. p x && q x) xs
find-fused p q [] = refl
find-fused p q (x ∷ xs) = find_step p x (filter q xs) (p x) (q x) (find (λ x. p x && q x) xs) refl (find-fused p q xs)

filter_whole : {X : Type 0} (p : X → Bool) (xs : List X) → ((x : X) → p x ≡ true) → filter p xs ≡ xs
filter_whole p [] h = refl
filter_whole p (x ∷ xs) h = ap (λ t. if t then x ∷ filter p xs else filter p xs) (h x) ∙ ap (λ l. x ∷ l) (filter_whole p xs h)

-- ---- the state when all are back

stays_none : (a b : Bool) → not (a && b && false) ≡ true
stays_none true true = refl
stays_none true false = refl
stays_none false b = refl

stays_both : (a e r any : Bool) → (not (a && e && r) && not (a && r && any)) ≡ not (a && r && (e || any))
stays_both true true true any = refl
stays_both true true false any = refl
stays_both true false true any = refl
stays_both true false false any = refl
stays_both false e r any = refl

abbrev with_grants : State → List OpenGrant → ℕ → State
with_grants s grants entries = record s { open_grants = grants; entries = entries }

pub all_back_is : (s : State) (lib : LibNo) (back : List Shown) → all_back s lib back ≡ record s { open_grants = filter (λ g. not (is_back lib.0 back g)) s.open_grants; entries = s.entries + length back }
all_back_is s lib [] =
    let n : s.entries + 0 ≡ s.entries = omega arith in
    sym (ap (λ (gs : List OpenGrant). with_grants s gs (s.entries + 0)) (filter_whole (λ (g : OpenGrant). not (is_back lib.0 [] g)) s.open_grants (λ g. stays_none (g.lib == lib.0) (is_read g.kind))) ∙ ap (with_grants s s.open_grants) n)
all_back_is s lib (f ∷ fs) =
    let t = given_back s lib.0 f.ino in
    let one : OpenGrant → Bool = λ g. not (g.lib == lib.0 && g.ino == f.ino && is_read g.kind) in
    let more : OpenGrant → Bool = λ g. not (is_back lib.0 fs g) in
    let n : s.entries + 1 + length fs ≡ s.entries + length (f ∷ fs) = omega arith in
    all_back_is t lib fs
    ∙ ap (λ (gs : List OpenGrant). with_grants s gs (s.entries + 1 + length fs)) (
    filter-fused more one s.open_grants
    ∙ filter-same (λ g. one g && more g) (λ g. not (is_back lib.0 (f ∷ fs) g)) s.open_grants
    (λ g i. stays_both (g.lib == lib.0) (g.ino == f.ino) (is_read g.kind) (list_any (λ (x : Shown). g.ino == x.ino) fs))
    )
    ∙ ap (with_grants s (filter (λ g. not (is_back lib.0 (f ∷ fs) g)) s.open_grants)) n

-- ---- what is out to the library then

among_is : (n : ℕ) (back : List Shown) → list_any (λ f. n == f.ino) back ≡ is_among n (map (λ f. f.ino) back)
among_is n [] = refl
among_is n (f ∷ fs) = ap (λ t. t || list_any (λ f. n == f.ino) fs) (eqb-swap n f.ino) ∙ ap (λ t. f.ino == n || t) (among_is n fs)

-- all but the leases
pub left_out : (s : State) (lib : LibNo) (back : List Shown) → OutAlike (out_of (record s { open_grants = filter (λ g. not (is_back lib.0 back g)) s.open_grants; entries = s.entries + length back }) lib) (without_reads (out_of s lib) back)
left_out s lib back =
    let stays : OpenGrant → Bool = λ g. not (is_back lib.0 back g) in
    let any : OpenGrant → Bool = λ g. list_any (λ f. g.ino == f.ino) back in
    record {
      writes = seen-all shown_of is_write lib stays (λ g w. ap (λ k. not (g.lib == lib.0 && is_read k && any g)) (write_is g.kind w) ∙ unread (g.lib == lib.0) (any g)) s.open_grants;
      reads = seen-left shown_of is_read lib stays (λ (r : Shown). not (is_among r.ino (map (λ f. f.ino) back))) (λ g mine read. ap (λ t. not (t && is_read g.kind && any g)) mine ∙ ap (λ t. not (true && t && any g)) read ∙ ap not (among_is g.ino back)) s.open_grants;
      holds = seen-all hold_of is_hold lib stays (λ g h. ap (λ k. not (g.lib == lib.0 && is_read k && any g)) (hold_is g.kind h) ∙ unread (g.lib == lib.0) (any g)) s.open_grants;
      pages = λ n. (λ i. i, λ i. i);
      numbers = λ n. (λ i. i, λ i. i);
    }
  where
    unread : (t any : Bool) → not (t && false && any) ≡ true
    unread true any = refl
    unread false any = refl

-- ---- what each give back leaves

-- what each of them leaves, all of them do
pub backs_leave : (P : State → Type 0) (s : State) (lib : LibNo) (back : List Shown) → ((t : State) (ino : ℕ) → P t → HasGrant t lib.0 ino Read → P (given_back t lib.0 ino)) → P s → AreBack s lib back → P (all_back s lib back)
backs_leave P s lib [] h p b = p
backs_leave P s lib (f ∷ fs) h p b = backs_leave P (given_back s lib.0 f.ino) lib fs h (h s f.ino p b.0) b.1

pub backs_kept : (s : State) (lib : LibNo) (back : List Shown) → Kept s → AreBack s lib back → Kept (all_back s lib back)
backs_kept s lib back k b = backs_leave Kept s lib back (λ t ino k g. step_kept t (given_back t lib.0 ino) (Back lib.0 ino) Done k g (inl (refl, refl))) k b

pub backs_told : (s : State) (lib : LibNo) (back : List Shown) → Kept s → AreAsTold s → AreBack s lib back → AreAsTold (all_back s lib back)
backs_told s lib back k told b =
    let P : State → Type 0 = λ t. Kept t × AreAsTold t in
    (backs_leave P s lib back (λ t ino p g.
    (step_kept t (given_back t lib.0 ino) (Back lib.0 ino) Done p.0 g (inl (refl, refl)), step_told t p.1 (Back lib.0 ino) Done (given_back t lib.0 ino) p.0 g (inl (refl, refl)))) (k, told) b).1

pub backs_nodes : (s : State) (lib : LibNo) (back : List Shown) → Kept s → AreBack s lib back → nodes_of (all_back s lib back) ≡ nodes_of s
backs_nodes s lib back k b =
    let P : State → Type 0 = λ t. Kept t × (nodes_of t ≡ nodes_of s) in
    (backs_leave P s lib back (λ t ino p g.
    (step_kept t (given_back t lib.0 ino) (Back lib.0 ino) Done p.0 g (inl (refl, refl)), back_nodes t p.0 lib.0 ino g ∙ p.1)) (k, refl) b).1

-- ---- leases that are out to a library, each once, can be given back in turn

pub are_back : (s : State) (lib : LibNo) (back : List Shown) → AreLent (out_of s lib) back → AreBack s lib back
are_back s lib [] l = tt
are_back s lib (f ∷ fs) l =
    let first = are_new-first f.ino (map (λ (x : Shown). x.ino) fs) l.once in
    let t = given_back s lib.0 f.ino in (
      (read_by s lib f (l.are_out f (inl refl))).0,
      are_back t lib fs (record {
        are_out = λ x i.
            subst (λ (rs : List Shown). In x rs) (sym (back_out s lib f.ino).reads)
            (In-filter (λ (r : Shown). not (r.ino == f.ino)) x (out_of s lib).reads (l.are_out x (inr i))
            (not_from_false (x.ino == f.ino) (ne_eqb x.ino f.ino (λ same. first.0 (subst (λ n. In n (map (λ (x : Shown). x.ino) fs)) same (In-map (λ (x : Shown). x.ino) x fs i))))));
        once = first.1;
      }),
    )

-- and each names its library
pub backs_whose : (s : State) (lib : LibNo) (back : List Shown) → AreLent (out_of s lib) back → (f : Shown) → In f back → f.lib ≡ lib
backs_whose s lib back l f i = ap (λ (n : ℕ). record { 0 = n }) (read_by s lib f (l.are_out f i)).1

-- ---- a loop that gives them back

-- The leases that are left to be given back, one after another, come to what all come to: the state, the log and what is promised;
-- no release begins or ends.
pub record Left (lib' : LibNo) (now : Registered) (log : Logged) (rest : List Shown) (was : Registered) (log' : Logged) (all : List Shown) : Type 0 where
  pub state : all_back now.state lib' rest ≡ all_back was.state lib' all
  pub begun : now.begun ≡ was.begun
  pub promised : now.promised + length all ≡ was.promised + length rest
  pub entries : log.entries ++ back_entries lib' rest ≡ log'.entries ++ back_entries lib' all
  pub room : log.room ≡ log'.room
  pub fits : length log.entries + now.promised ≤ log.room
  pub given : AreBack now.state lib' rest
  pub whose : (f : Shown) → In f rest → f.lib ≡ lib'
  pub kept : Kept now.state
  pub looked : now.looked ≡ was.looked
  pub count : length log.entries ≡ now.state.entries

-- the last of those that stand in turn is the first
pub last_back : (items rest : List Shown) (f : Shown) → items ≡ rest ++ f ∷ [] → reverse items ≡ f ∷ reverse rest
last_back items rest f e = ap reverse e ∙ reverse-append rest (f ∷ [])

pub left_begins : (lib : LibNo) (now : Registered) (log : Logged) (rest all : List Shown) → rest ≡ all → AreBack now.state lib all → ((f : Shown) → In f all → f.lib ≡ lib) → length log.entries + now.promised ≤ log.room → Kept now.state → length log.entries ≡ now.state.entries → Left lib now log rest now log all
left_begins lib now log rest all e given whose fits k count =
    subst (λ (l : List Shown). Left lib now log l now log all) (sym e) (record { state = refl; begun = refl; promised = refl; entries = refl; room = refl; fits = fits; given = given; whose = whose; kept = k; looked = refl; count = count })

module _ (lib : LibNo) (now now' was : Registered) (log next log' : Logged) (f : Shown) (rest all : List Shown) (l : Left lib now log (f ∷ rest) was log' all) where
  pub left_given : HasGrant now.state f.lib.0 f.ino Read
  left_given = subst (λ (o : LibNo). HasGrant now.state o.0 f.ino Read) (sym (l.whose f (inl refl))) l.given.0

  pub left_next : Step now.state (Back f.lib.0 f.ino) Done now'.state → now'.begun ≡ now.begun → now'.promised + 1 ≡ now.promised → next ≡ record log { entries = log.entries ++ Back_entry lib f.ino ∷ [] } → Kept now'.state → now'.looked ≡ now.looked → Left lib now' next rest was log' all
  left_next st begun less pushed k still =
      let same : now'.state ≡ given_back now.state lib.0 f.ino = came (subst (λ (o : LibNo). Step now.state (Back o.0 f.ino) Done now'.state) (l.whose f (inl refl)) st) in
      let es : next.entries ≡ log.entries ++ Back_entry lib f.ino ∷ [] = ap (λ (g : Logged). g.entries) pushed in
      let more = ap length es ∙ length-append log.entries (Back_entry lib f.ino ∷ []) in
      let left = l.promised in
      let fits = l.fits in
      let room : next.room ≡ log.room = ap (λ (g : Logged). g.room) pushed in
      record {
        state = ap (λ (t : State). all_back t lib rest) same ∙ l.state;
        begun = begun ∙ l.begun;
        promised = omega (arith, less, left);
        entries = ap (λ (g : List Entry). g ++ back_entries lib rest) es ∙ append_assoc log.entries (Back_entry lib f.ino ∷ []) (back_entries lib rest) ∙ l.entries;
        room = room ∙ l.room;
        fits = omega (arith, more, less, fits, room);
        given = subst (λ (t : State). AreBack t lib rest) (sym same) l.given.1;
        whose = λ g i. l.whose g (inr i);
        kept = k;
        looked = still ∙ l.looked;
        count = more ∙ ap (λ n. n + 1) l.count ∙ sym (ap (λ (t : State). t.entries) same);
      }
    where
      came : Step now.state (Back lib.0 f.ino) Done now'.state → now'.state ≡ given_back now.state lib.0 f.ino
      came (inl d) = d.1
      came (inr none) = absurd (false≢true none.0)
