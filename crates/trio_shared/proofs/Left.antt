-- What a log leaves goes by the log, and entries of others leave what a library sees.
use Rattle.trio_shared.proofs.Words.{if◌then◌else◌, ◌&&◌, ◌++◌, ◌==◌, ◌∙◌, ◌∷◌, ◌≡◌, ◌≢◌, Allot, Back, Batch, Bool, Creds, DeskSeen, Entry, Grant, HoldParts, Kept, Known, Leaves, LibNo, LibOut, List, Mode, OpenGrant, Origin, Raw, ReplaysFrom, Shown, Sizes, State, [], answer_of, ap, cases_Bool, creds_of, desk_left, desk_of, eq-eqb, eqb-true, event_of, filter, hold_of, inl, inr, is_hold, is_write, known, made_by, maker, map, others_keep_out, out_left, out_of, plain_state, refl, shown_of, started, step_kept, subst, sym, ℕ}
use Rattle.std.proofs.lemmas.Bool.{false≢true}
use Rattle.trio_nodes.specs.GrantKinds.{is_read}
use Rattle.trio_desk.specs.Contents.{Rights}
use Rattle.trio_laws.specs.Laws.{library_of}
use Rattle.trio_laws.specs.OutLaws.{HasOut, without_checkpoint}
use Rattle.trio_laws.specs.OutLaws as laws
use Rattle.trio_laws.specs.history.Recorded.{LentWhole}
use Rattle.trio_laws.specs.history.Replays.{IsLibrary, known_from}
use Rattle.trio_laws.specs.session.Lent.{root_of, sizes_of}
use Rattle.trio_laws.proofs.KnownSteps.{steps_are_known}
use Rattle.trio_laws.proofs.history.Grows.{step_whole}
use Rattle.trio_laws.proofs.session.Lent.{step_keeps_root}
use Rattle.trio_ctl.proofs.DeskLists.{filter-both, filter-through}
use Rattle.trio_ctl.proofs.DeskSteps.{library_stays}
use Rattle.trio_shared.specs.Left.{left_by}
use Rattle.trio_shared.specs.Laws.{DeskIsLeft, LeavesOne, OthersLeave}

-- ---- steps in a row

pub replays_split : (s t : State) (xs ys : List Entry) → ReplaysFrom s (xs ++ ys) t → (mid : State) × ReplaysFrom s xs mid × ReplaysFrom mid ys t
replays_split s t [] ys r = (s, refl, r)
replays_split s t (e ∷ es) ys r =
    let rest = replays_split r.0 t es ys r.4 in
    (rest.0, (r.0, r.1, r.2, r.3, rest.1), rest.2)

pub kept_through : (s : State) (log : List Entry) (t : State) → Kept s → ReplaysFrom s log t → Kept t
kept_through s [] t k r = subst Kept (sym r) k
kept_through s (e ∷ es) t k r = kept_through r.0 es t (step_kept s r.0 (event_of e) (answer_of e) k r.2 r.3) r.4

pub known_through : (s : State) (log : List Entry) (t : State) → Kept s → ReplaysFrom s log t → known t ≡ known_from (known s) log
known_through s [] t k r = ap known r
known_through s (e ∷ es) t k r =
    known_through r.0 es t (step_kept s r.0 (event_of e) (answer_of e) k r.2 r.3) r.4
    ∙ ap (λ (z : Known). known_from z es) (steps_are_known s (event_of e) (answer_of e) r.0 k r.3)

-- the sizes of the image and the rights of its root stay
abbrev SameImage : State → State → Type 0
SameImage s t = (sizes_of t ≡ sizes_of s) × (root_of t ≡ root_of s)

image_through : (s : State) (log : List Entry) (t : State) → Kept s → LentWhole s → ReplaysFrom s log t → SameImage s t
image_through s [] t k w r = (ap sizes_of r, ap root_of r)
image_through s (e ∷ es) t k w r =
    let same = step_keeps_root s (event_of e) (answer_of e) r.0 k w r.2 r.3 in
    let rest = image_through r.0 es t (step_kept s r.0 (event_of e) (answer_of e) k r.2 r.3) (step_whole s k (event_of e) (answer_of e) r.0 r.3 w) r.4 in
    (rest.0 ∙ same.0, rest.1 ∙ same.1)

-- ---- what a library has out

-- by its open grants without their checkpoints
abbrev pub lib_out : HasOut → LibOut
lib_out has = record {
  writes = map shown_of (filter (λ g. is_write g.kind) has.grants);
  reads = map shown_of (filter (λ g. is_read g.kind) has.grants);
  holds = map hold_of (filter (λ g. is_hold g.kind) has.grants);
  pages = has.pages;
  numbers = has.numbers;
}

same_out : (a b : LibOut) → a.writes ≡ b.writes → a.reads ≡ b.reads → a.holds ≡ b.holds → a.pages ≡ b.pages → a.numbers ≡ b.numbers → a ≡ b
same_out a b writes reads holds pages numbers =
    ap (λ (x : List Shown). record a { writes = x }) writes
    ∙ ap (λ (x : List Shown). record { writes = b.writes; reads = x; holds = a.holds; pages = a.pages; numbers = a.numbers }) reads
    ∙ ap (λ (x : List HoldParts). record { writes = b.writes; reads = b.reads; holds = x; pages = a.pages; numbers = a.numbers }) holds
    ∙ ap (λ (x : List ℕ). record { writes = b.writes; reads = b.reads; holds = b.holds; pages = x; numbers = a.numbers }) pages
    ∙ ap (λ (x : List ℕ). record { writes = b.writes; reads = b.reads; holds = b.holds; pages = b.pages; numbers = x }) numbers

pub out_is : (s : State) (lib : LibNo) → out_of s lib ≡ lib_out (laws.out_of s lib.0)
out_is s lib =
    let mine : OpenGrant → Bool = λ g. g.lib == lib.0 in
    same_out (out_of s lib) (lib_out (laws.out_of s lib.0))
    (filter-both mine (λ (g : OpenGrant). is_write g.kind) without_checkpoint shown_of (λ g. refl) (λ g. refl) s.open_grants)
    (filter-both mine (λ (g : OpenGrant). is_read g.kind) without_checkpoint shown_of (λ g. refl) (λ g. refl) s.open_grants)
    (filter-both mine (λ (g : OpenGrant). is_hold g.kind) without_checkpoint hold_of (λ g. refl) (λ g. refl) s.open_grants)
    refl refl

-- it goes by what is known
pub out_known : (s : State) (lib : LibNo) → out_of (plain_state (known s)) lib ≡ out_of s lib
out_known s lib =
    same_out (out_of (plain_state (known s)) lib) (out_of s lib)
    (filter-through (λ (g : OpenGrant). g.lib == lib.0 && is_write g.kind) shown_of without_checkpoint (λ g. refl) (λ g. refl) s.open_grants)
    (filter-through (λ (g : OpenGrant). g.lib == lib.0 && is_read g.kind) shown_of without_checkpoint (λ g. refl) (λ g. refl) s.open_grants)
    (filter-through (λ (g : OpenGrant). g.lib == lib.0 && is_hold g.kind) hold_of without_checkpoint (λ g. refl) (λ g. refl) s.open_grants)
    refl refl

-- whose entry it is
pub whose : (e : Entry) → library_of (event_of e) ≡ maker e
whose (Grant lib ino kind answer) = refl
whose (Allot lib pages inodes answer) = refl
whose (Back lib ino) = refl
whose (Raw lib verdict files bundle) = refl
whose (Batch lib calls handed) = refl
whose (Mode lib ino mode answer call) = refl

-- an entry before entries of others is one of another
pub of_another : (l : ℕ) (e : Entry) (es : List Entry) → made_by l (e ∷ es) ≡ [] → (maker e ≢ l) × (made_by l es ≡ [])
of_another l e es none =
    elim (cases_Bool (maker e == l)) [
      | inl same ↦ (let wrong : e ∷ made_by l es ≡ [] = subst (λ (b : Bool). (if b then e ∷ made_by l es else made_by l es) ≡ []) same none in absurd (cc wrong))
      | inr other ↦ (
        λ same. false≢true (sym other ∙ eq-eqb (maker e) l same),
        subst (λ (b : Bool). (if b then e ∷ made_by l es else made_by l es) ≡ []) other none,
      )
    ]

pub others_through : (s : State) (others : List Entry) (t : State) (lib : LibNo) → Kept s → ReplaysFrom s others t → made_by lib.0 others ≡ [] → out_of t lib ≡ out_of s lib
others_through s [] t lib k r none = ap (λ (x : State). out_of x lib) r
others_through s (e ∷ es) t lib k r none =
    let apart = of_another lib.0 e es none in
    let first : laws.out_of r.0 lib.0 ≡ laws.out_of s lib.0 = others_keep_out s (event_of e) (answer_of e) r.0 lib.0 k r.2 r.3 (λ same. apart.0 (sym (whose e) ∙ same)) in
    others_through r.0 es t lib (step_kept s r.0 (event_of e) (answer_of e) k r.2 r.3) r.4 apart.1
    ∙ (out_is r.0 lib ∙ ap lib_out first ∙ sym (out_is s lib))

-- ---- what a log leaves

module _ (first : Origin) where
  -- the log replays from the first state
  pub replays : (log : List Entry) (s : State) → Leaves first log s → ReplaysFrom (started first) log s
  replays log s l = subst (λ (cs : List Creds). ReplaysFrom (record (started first) { creds = cs }) log s) l.creds l.all.replays

  pub known_left : (log : List Entry) (s : State) → Leaves first log s → known s ≡ left_by first log
  known_left log s l = known_through (started first) log s l.begins (replays log s l)

  out_is_left : (log : List Entry) (s : State) (lib : LibNo) → Leaves first log s → out_of s lib ≡ out_left first log lib
  out_is_left log s lib l = sym (out_known s lib) ∙ ap (λ (k : Known). out_of (plain_state k) lib) (known_left log s l)

  none_lent : LentWhole (started first)
  none_lent g x i j = absurd i

  same_seen : (d e : DeskSeen) → d.lib ≡ e.lib → d.creds ≡ e.creds → d.out ≡ e.out → d.sizes ≡ e.sizes → d.root ≡ e.root → d ≡ e
  same_seen d e lib creds out sizes root =
      ap (λ (x : LibNo). record { lib = x; creds = d.creds; out = d.out; sizes = d.sizes; root = d.root }) lib
      ∙ ap (λ (x : Creds). record { lib = e.lib; creds = x; out = d.out; sizes = d.sizes; root = d.root }) creds
      ∙ ap (λ (x : LibOut). record { lib = e.lib; creds = e.creds; out = x; sizes = d.sizes; root = d.root }) out
      ∙ ap (λ (x : Sizes). record { lib = e.lib; creds = e.creds; out = e.out; sizes = x; root = d.root }) sizes
      ∙ ap (λ (x : Rights). record { lib = e.lib; creds = e.creds; out = e.out; sizes = e.sizes; root = x }) root

pub leaves_one : LeavesOne
leaves_one first log s t a b = known_left first log s a ∙ sym (known_left first log t b)

pub desk_is_left : DeskIsLeft
desk_is_left first log s lib l =
    let image = image_through (started first) log s l.begins (none_lent first) (replays first log s l) in
    let creds : creds_of s lib.0 ≡ creds_of (started first) lib.0 = ap (λ (cs : List Creds). creds_of (record s { creds = cs }) lib.0) l.creds in
    same_seen first (desk_of s lib) (desk_left first log lib) refl creds (out_is_left first log s lib l) image.0 image.1

pub others_leave : OthersLeave
others_leave first log others s lib l none =
    let parts = replays_split (started first) s log others (replays first (log ++ others) s l) in
    let mid = parts.0 in
    let through = others_through mid others s lib (kept_through (started first) log mid l.begins parts.1) parts.2 none in
    let before : out_of mid lib ≡ out_left first log lib = sym (out_known mid lib) ∙ ap (λ (k : Known). out_of (plain_state k) lib) (known_through (started first) log mid l.begins parts.1) in
    ap (λ (o : LibOut). record (desk_left first log lib) { out = o }) (sym (out_is_left first (log ++ others) s lib l) ∙ through ∙ before)

-- ---- whose entries a log has

library_through : (s : State) (log : List Entry) (t : State) (lib : LibNo) → ReplaysFrom s log t → IsLibrary s.creds lib.0 → IsLibrary t.creds lib.0
library_through s [] t lib r is = subst (λ (x : State). IsLibrary x.creds lib.0) (sym r) is
library_through s (e ∷ es) t lib r is = library_through r.0 es t lib r.4 (library_stays s r.0 lib (event_of e) (answer_of e) r.3 is)

-- an entry of another before entries of others
none_more : (l : ℕ) (e : Entry) (es : List Entry) → maker e ≢ l → made_by l es ≡ [] → made_by l (e ∷ es) ≡ []
none_more l e es other none =
    elim (cases_Bool (maker e == l)) [
      | inl same ↦ absurd (other (eqb-true (maker e) l same))
      | inr apart ↦ subst (λ (b : Bool). (if b then e ∷ made_by l es else made_by l es) ≡ []) (sym apart) none
    ]

none_through : (s : State) (log : List Entry) (t : State) (l : ℕ) → ReplaysFrom s log t → (IsLibrary t.creds l → ⊥) → made_by l log ≡ []
none_through s [] t l r not = refl
none_through s (e ∷ es) t l r not =
    let maker_is : IsLibrary t.creds (library_of (event_of e)) =
    library_through r.0 es t (record { 0 = library_of (event_of e) }) r.4 (library_stays s r.0 (record { 0 = library_of (event_of e) }) (event_of e) (answer_of e) r.3 r.1) in
    none_more l e es (λ same. not (subst (IsLibrary t.creds) (whose e ∙ same) maker_is)) (none_through r.0 es t l r.4 not)

-- a log has no entry of a number that is no library
pub no_other : (first : Origin) (log : List Entry) (s : State) → Leaves first log s → (l : ℕ) → (IsLibrary s.creds l → ⊥) → made_by l log ≡ []
no_other first log s left l not = none_through (started first) log s l (replays first log s left) not
