-- What a library has out, after a grant, an allotment, a give back and the end of a bundle.
use Rattle.trio_ctl.proofs.Words.{if◌then◌else◌, ◌&&◌, ◌++◌, ◌-◌, ◌<◌, ◌==◌, ◌||◌, ◌∙◌, ◌∷◌, ◌≡◌, Bool, Bundle, Ends, GrantKind, Hold, HoldParts, Image, In, In-cases, In-filter, In-is_among, In-left, In-right, LibNo, LibOut, List, None, OpenGrant, Option, OutAlike, Parcel, Read, Shown, Some, State, WasAllotted, Write, Written, [], allots, and_parts, ap, append-nil, arith, bundle_of, cases_Bool, count_up, eq-eqb, eqb-true, false, false≢true, file_numbers, filter, filter-In, fresh_sheet, given_back, given_by, grants_after, grants_of, hold_numbers, hold_of, inl, ino_numbers, inr, is_among, is_among-In, is_hold, is_in_bundle, is_library, is_read, is_some, is_write, is_written, length, length-with_all, lent_by, lent_part, lib_at, lib_at-others, lib_at-set, map, map-append, map-map, not, not-true, not_from_false, numbers_to, opens, out_after, out_of, page_numbers, refl, sheet_numbers, shown_of, subst, sym, true, with_lease, within_some, write_is, written_in, ℕ}
use Rattle.std.specs.Prelude.{◌↔◌}
use Rattle.std.proofs.lemmas.List.Elements.{filter-append}
use Rattle.trio_lists.proofs.Counting.{count_in}
use Rattle.trio_lists.proofs.Filters.{filter-filter}
use Rattle.trio_desk.specs.Out.{with_allotted, without_parcel, without_read}
use Rattle.trio_state.specs.Allotments.{out_with}
use Rattle.trio_ctl.proofs.DeskLists.{and-true, filter-seen, filter-through, found-among, or-false}

-- the same is out
pub alike : (o : LibOut) → OutAlike o o
alike o = record { writes = refl; reads = refl; holds = refl; pages = λ n. (λ i. i, λ i. i); numbers = λ n. (λ i. i, λ i. i) }

pub read_is : (k : GrantKind) → is_read k ≡ true → k ≡ Read
read_is Read e = refl
read_is Write e = absurd (false≢true e)
read_is Hold e = absurd (false≢true e)

pub hold_is : (k : GrantKind) → is_hold k ≡ true → k ≡ Hold
hold_is Hold e = refl
hold_is Read e = absurd (false≢true e)
hold_is Write e = absurd (false≢true e)

-- ---- the grants of one kind, and what is seen of them

module _ {Y : Type 0} (v : OpenGrant → Y) (is_kind : GrantKind → Bool) (lib : LibNo) where
  abbrev mine : OpenGrant → Bool
  mine g = g.lib == lib.0 && is_kind g.kind

  abbrev pub seen_of : List OpenGrant → List Y
  seen_of gs = map v (grants_of is_kind lib gs)

  abbrev pub one_of : OpenGrant → Bool → List Y
  one_of g t = if t then v g ∷ [] else []

  pub seen-more : (gs : List OpenGrant) (g : OpenGrant) (kind : GrantKind) → g.lib ≡ lib.0 → g.kind ≡ kind → seen_of (gs ++ g ∷ []) ≡ seen_of gs ++ one_of g (is_kind kind)
  seen-more gs g kind l k =
      let passes : mine g ≡ is_kind kind = ap (λ t. t && is_kind g.kind) (eq-eqb g.lib lib.0 l) ∙ ap is_kind k in
      ap (map v) (filter-append mine gs (g ∷ []))
      ∙ map-append v (filter mine gs) (filter mine (g ∷ []))
      ∙ ap (λ (t : Bool). seen_of gs ++ map v (if t then g ∷ [] else [])) passes
      ∙ ap (λ l. seen_of gs ++ l) (by (is_kind kind))
    where
      by : (t : Bool) → map v (if t then g ∷ [] else []) ≡ one_of g t
      by true = refl
      by false = refl

  pub seen-left : (kept : OpenGrant → Bool) (stays : Y → Bool) → ((g : OpenGrant) → (g.lib == lib.0) ≡ true → is_kind g.kind ≡ true → kept g ≡ stays (v g)) → (gs : List OpenGrant) → seen_of (filter kept gs) ≡ filter stays (seen_of gs)
  seen-left kept stays h gs =
      filter-seen mine kept v stays (λ g m. let p = and_parts (g.lib == lib.0) (is_kind g.kind) m in h g p.0 p.1) gs

  pub seen-all : (kept : OpenGrant → Bool) → ((g : OpenGrant) → is_kind g.kind ≡ true → kept g ≡ true) → (gs : List OpenGrant) → seen_of (filter kept gs) ≡ seen_of gs
  seen-all kept h gs = ap (map v) (filter-filter mine kept gs (λ g i m. h g (and_parts (g.lib == lib.0) (is_kind g.kind) m).1))

  pub seen-part : ((g : OpenGrant) → v (lent_part g) ≡ v g) → (gs : List OpenGrant) → seen_of (map lent_part gs) ≡ seen_of gs
  seen-part h gs = filter-through mine v lent_part (λ g. refl) h gs

-- ---- the numbers that are out to a library

pub numbers_to-In : (outs : List (Option LibNo)) (lib n : ℕ) → In n (numbers_to outs lib) → WasAllotted outs lib n
numbers_to-In outs lib n i = by (lib_at outs n) (filter-In (λ n. is_library lib (lib_at outs n)) n (count_up 0 (length outs - 0)) i).1
  where
    by : (o : Option LibNo) → is_library lib o ≡ true → o ≡ Some (record { 0 = lib })
    by None e = absurd (false≢true e)
    by (Some l) e = ap (λ (m : ℕ). Some (record { 0 = m })) (eqb-true l.0 lib e)

pub In-numbers_to : (outs : List (Option LibNo)) (lib n : ℕ) → WasAllotted outs lib n → In n (numbers_to outs lib)
In-numbers_to outs lib n out =
    let lt = within_some outs n (ap is_some out) in
    In-filter (λ n. is_library lib (lib_at outs n)) n (count_up 0 (length outs - 0)) (count_in 0 (length outs - 0) n (omega arith) (omega (arith, lt)))
    (ap (is_library lib) out ∙ eq-eqb lib lib refl)

-- numbers that have their places go out to the library
pub given_numbers : (outs : List (Option LibNo)) (lib : ℕ) (ns : List ℕ) → ((n : ℕ) → In n ns → n < length outs) → (n : ℕ) → In n (numbers_to (out_with outs lib ns) lib) ↔ In n (numbers_to outs lib ++ ns)
given_numbers outs lib ns within n = (to, from)
  where
    to : In n (numbers_to (out_with outs lib ns) lib) → In n (numbers_to outs lib ++ ns)
    to i =
        elim (cases_Bool (is_among n ns)) [
          | inl new ↦ In-right n (numbers_to outs lib) ns (is_among-In n ns new)
          | inr old ↦ In-left n (numbers_to outs lib) ns (In-numbers_to outs lib n (sym (lib_at-others (Some (record { 0 = lib })) ns n outs old) ∙ numbers_to-In (out_with outs lib ns) lib n i))
        ]

    new_one : n < length outs → is_among n ns ≡ true → In n (numbers_to (out_with outs lib ns) lib)
    new_one lt new = In-numbers_to (out_with outs lib ns) lib n (lib_at-set (Some (record { 0 = lib })) ns n outs lt new)

    from : In n (numbers_to outs lib ++ ns) → In n (numbers_to (out_with outs lib ns) lib)
    from i =
        elim (In-cases n (numbers_to outs lib) ns i) [
          | inr new ↦ new_one (within n new) (In-is_among n ns new)
          | inl old ↦
              let was = numbers_to-In outs lib n old in
              elim (cases_Bool (is_among n ns)) [
                | inl new ↦ new_one (within_some outs n (ap is_some was)) new
                | inr other ↦ In-numbers_to (out_with outs lib ns) lib n (lib_at-others (Some (record { 0 = lib })) ns n outs other ∙ was)
              ]
        ]

-- numbers come back
pub left_numbers : (outs : List (Option LibNo)) (lib : ℕ) (these : List ℕ) (n : ℕ) → In n (numbers_to (out_after outs these) lib) ↔ In n (filter (λ m. not (is_among m these)) (numbers_to outs lib))
left_numbers outs lib these n = (to, from)
  where
    to : In n (numbers_to (out_after outs these) lib) → In n (filter (λ m. not (is_among m these)) (numbers_to outs lib))
    to i =
        let out = numbers_to-In (out_after outs these) lib n i in
        elim (cases_Bool (is_among n these)) [
          | inl back ↦
              let lt = within_some (out_after outs these) n (ap is_some out) in
              let long = length-with_all None these outs in
              let none : lib_at (out_after outs these) n ≡ None = lib_at-set None these n outs (omega (arith, lt, long)) back in
              let wrong : None ≡ Some (record { 0 = lib }) = sym none ∙ out in
              absurd (cc wrong)
          | inr other ↦
              In-filter (λ m. not (is_among m these)) n (numbers_to outs lib) (In-numbers_to outs lib n (sym (lib_at-others None these n outs other) ∙ out)) (not_from_false (is_among n these) other)
        ]

    from : In n (filter (λ m. not (is_among m these)) (numbers_to outs lib)) → In n (numbers_to (out_after outs these) lib)
    from i =
        let f = filter-In (λ m. not (is_among m these)) n (numbers_to outs lib) i in
        In-numbers_to (out_after outs these) lib n (lib_at-others None these n outs (not-true (is_among n these) f.1) ∙ numbers_to-In outs lib n f.0)

ended_numbers : (lib : ℕ) (outs outs' : List (Option LibNo)) (these these' : List ℕ) → outs' ≡ out_after outs these → these ≡ these' → (n : ℕ) → In n (numbers_to outs' lib) ↔ In n (filter (λ m. not (is_among m these')) (numbers_to outs lib))
ended_numbers lib outs outs' these these' e same n =
    subst (λ (o : List (Option LibNo)). In n (numbers_to o lib) ↔ In n (filter (λ m. not (is_among m these')) (numbers_to outs lib))) (sym e)
    (subst (λ (t : List ℕ). In n (numbers_to (out_after outs these) lib) ↔ In n (filter (λ m. not (is_among m t)) (numbers_to outs lib))) same (left_numbers outs lib these n))

-- ---- after a grant, an allotment and a give back

pub granted_out : (s : State) (lib : LibNo) (g : OpenGrant) → g.lib ≡ lib.0 → OutAlike (out_of (opens s g) lib) (with_lease (out_of s lib) (lent_by g))
granted_out s lib g l = by g.kind refl
  where
    more_of : {Y : Type 0} (v : OpenGrant → Y) (is_kind : GrantKind → Bool) (kind : GrantKind) → g.kind ≡ kind → seen_of v is_kind lib (s.open_grants ++ g ∷ []) ≡ seen_of v is_kind lib s.open_grants ++ one_of v is_kind lib g (is_kind kind)
    more_of v is_kind kind e = seen-more v is_kind lib s.open_grants g kind l e

    by : (kind : GrantKind) → g.kind ≡ kind → OutAlike (out_of (opens s g) lib) (with_lease (out_of s lib) (given_by kind g))
    by Write e = record {
      writes = more_of shown_of is_write Write e;
      reads = more_of shown_of is_read Write e ∙ append-nil (seen_of shown_of is_read lib s.open_grants);
      holds = more_of hold_of is_hold Write e ∙ append-nil (seen_of hold_of is_hold lib s.open_grants);
      pages = λ n. (λ i. i, λ i. i);
      numbers = λ n. (λ i. i, λ i. i);
    }
    by Read e = record {
      writes = more_of shown_of is_write Read e ∙ append-nil (seen_of shown_of is_write lib s.open_grants);
      reads = more_of shown_of is_read Read e;
      holds = more_of hold_of is_hold Read e ∙ append-nil (seen_of hold_of is_hold lib s.open_grants);
      pages = λ n. (λ i. i, λ i. i);
      numbers = λ n. (λ i. i, λ i. i);
    }
    by Hold e = record {
      writes = more_of shown_of is_write Hold e ∙ append-nil (seen_of shown_of is_write lib s.open_grants);
      reads = more_of shown_of is_read Hold e ∙ append-nil (seen_of shown_of is_read lib s.open_grants);
      holds = more_of hold_of is_hold Hold e;
      pages = λ n. (λ i. i, λ i. i);
      numbers = λ n. (λ i. i, λ i. i);
    }

pub allotted_out : (s : State) (lib : LibNo) (ps ns : List ℕ) → ((n : ℕ) → In n ps → n < length s.pages_out) → ((n : ℕ) → In n ns → n < length s.numbers_out) → OutAlike (out_of (allots s lib.0 ps ns) lib) (with_allotted (out_of s lib) ps ns)
allotted_out s lib ps ns pages numbers = record {
  writes = refl;
  reads = refl;
  holds = refl;
  pages = given_numbers s.pages_out lib.0 ps pages;
  numbers = given_numbers s.numbers_out lib.0 ns numbers;
}

pub back_out : (s : State) (lib : LibNo) (ino : ℕ) → OutAlike (out_of (given_back s lib.0 ino) lib) (without_read (out_of s lib) ino)
back_out s lib ino =
    let stays : OpenGrant → Bool = λ g. not (g.lib == lib.0 && g.ino == ino && is_read g.kind) in
    record {
      writes = seen-all shown_of is_write lib stays (λ g w. ap (λ k. not (g.lib == lib.0 && g.ino == ino && is_read k)) (write_is g.kind w) ∙ unread (g.lib == lib.0 && g.ino == ino)) s.open_grants;
      reads = seen-left shown_of is_read lib stays (λ (r : Shown). not (r.ino == ino)) (λ g mine read. ap (λ t. not (t && g.ino == ino && is_read g.kind)) mine ∙ ap (λ t. not (true && g.ino == ino && t)) read ∙ ap not (and-true (g.ino == ino))) s.open_grants;
      holds = seen-all hold_of is_hold lib stays (λ g h. ap (λ k. not (g.lib == lib.0 && g.ino == ino && is_read k)) (hold_is g.kind h) ∙ unread (g.lib == lib.0 && g.ino == ino)) s.open_grants;
      pages = λ n. (λ i. i, λ i. i);
      numbers = λ n. (λ i. i, λ i. i);
    }
  where
    unread : (t : Bool) → not (t && false) ≡ true
    unread true = refl
    unread false = refl

-- ---- the end of a bundle

-- whether the grant of a kind is in a bundle that has a write lease on its file, or its hold
abbrev by_kind : GrantKind → Bool → Bool → Bool
by_kind Write written held = written
by_kind Hold written held = held
by_kind Read written held = false

in_bundle : (lib : LibNo) (b : Bundle) (g : OpenGrant) (kind : GrantKind) → (g.lib == lib.0) ≡ true → g.kind ≡ kind → is_in_bundle lib.0 b g ≡ by_kind kind (is_written b g.ino) (is_among g.ino b.holds)
in_bundle lib b g kind mine e =
    ap (λ t. t && ((is_write g.kind && is_written b g.ino) || (is_hold g.kind && is_among g.ino b.holds))) mine
    ∙ ap (λ k. (is_write k && is_written b g.ino) || (is_hold k && is_among g.ino b.holds)) e
    ∙ each kind (is_written b g.ino) (is_among g.ino b.holds)
  where
    each : (kind : GrantKind) (written held : Bool) → ((is_write kind && written) || (is_hold kind && held)) ≡ by_kind kind written held
    each Write written held = or-false written
    each Hold written held = refl
    each Read written held = refl

-- a file is written in a bundle where its number is among those of the parcel's files
pub written_among : (p : Parcel) (n : ℕ) → is_written (bundle_of p) n ≡ is_among n (file_numbers p.writes)
written_among p n =
    found-among (λ (w : Written). w.ino) (bundle_of p).writes n
    ∙ ap (is_among n) (map-map (λ (w : Written). w.ino) (λ f. written_in f.stands) p.writes)

module _ (s s' : State) (lib : LibNo) (p : Parcel) (image : Image) (e : Ends s lib.0 (bundle_of p) image s') where
  abbrev b : Bundle
  b = bundle_of p

  abbrev stays : OpenGrant → Bool
  stays g = not (is_in_bundle lib.0 b g)

  through : {Y : Type 0} (v : OpenGrant → Y) (is_kind : GrantKind → Bool) → ((g : OpenGrant) → v (lent_part g) ≡ v g) → seen_of v is_kind lib s'.open_grants ≡ seen_of v is_kind lib (grants_after s lib.0 b)
  through v is_kind h =
      sym (seen-part v is_kind lib h s'.open_grants) ∙ ap (seen_of v is_kind lib) e.grants ∙ seen-part v is_kind lib h (grants_after s lib.0 b)

  reads_kept : (gs : List OpenGrant) → seen_of shown_of is_read lib (filter stays gs) ≡ seen_of shown_of is_read lib gs
  reads_kept gs = seen-all shown_of is_read lib stays (λ g read. ap not (unread g (g.lib == lib.0) (read_is g.kind read))) gs
    where
      unread : (g : OpenGrant) (t : Bool) → g.kind ≡ Read → (t && ((is_write g.kind && is_written b g.ino) || (is_hold g.kind && is_among g.ino b.holds))) ≡ false
      unread g true k = ap (λ k. (is_write k && is_written b g.ino) || (is_hold k && is_among g.ino b.holds)) k
      unread g false k = refl

  pub ended_out : OutAlike (out_of s' lib) (without_parcel (out_of s lib) p)
  ended_out = record {
    writes =
        through shown_of is_write (λ g. refl)
        ∙ seen-left shown_of is_write lib stays (λ (w : Shown). not (is_among w.ino (file_numbers p.writes))) (λ g mine write. ap not (in_bundle lib b g Write mine (write_is g.kind write) ∙ written_among p g.ino)) s.open_grants;
    reads = through shown_of is_read (λ g. refl) ∙ reads_kept s.open_grants;
    holds =
        through hold_of is_hold (λ g. refl)
        ∙ seen-left hold_of is_hold lib stays (λ (h : HoldParts). not (is_among h.ino (hold_numbers p.holds))) (λ g mine hold. ap not (in_bundle lib b g Hold mine (hold_is g.kind hold))) s.open_grants;
    pages = ended_numbers lib.0 s.pages_out s'.pages_out (sheet_numbers b.pages) (page_numbers p.pages) e.pages (map-map (λ x. x.page) fresh_sheet p.pages);
    numbers = ended_numbers lib.0 s.numbers_out s'.numbers_out b.numbers (ino_numbers p.inodes) e.numbers refl;
  }
