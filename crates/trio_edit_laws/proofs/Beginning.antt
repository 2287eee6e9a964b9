-- A session that has nothing yet.
use Rattle.trio_edit_laws.proofs.Words.{◌≡◌, ◌≤◌, ComesToShown, DeskSeen, HandsInAll, In, List, MayEdit, Met, None, SessionSeen, Shown, Some, [], ap, arith, case_as_stands, descend, emptied, fronts, nothing_is_ready, refl, subst, suc, sym, zero, ℕ}
use native.Mathlib.Omega.{arith}
use Rattle.trio_layout.specs.JudgedFiles.{judged_files}
use Rattle.trio_desk.specs.Out.{OutAlike, nothing_out}
use Rattle.trio_desk.specs.Edits.{nothing}
use Rattle.trio_laws.proofs.session.TakenMore.{nothing_is_in_order}
use Rattle.trio_edit_laws.specs.TakingLaws.{Begins, BeginsToEdit}

-- where nothing is out nothing is handed in
hands_in-nothing : (desk : DeskSeen) → OutAlike desk.out nothing_out → HandsInAll desk.out nothing []
hands_in-nothing desk none = record {
  given = search arith;
  writes = λ w i. subst (λ l. In w l) none.writes i;
  reads = λ r. (λ i. subst (λ l. In r l) none.reads i, λ i. absurd i);
  reads_once = refl;
  holds = λ h i. subst (λ l. In h l) none.holds i;
  pages = λ n i. (none.pages n).0 i;
  numbers = λ n i. (none.numbers n).0 i;
}

-- nothing is placed
zero_least : 0 ≤ 0
zero_least = omega arith

-- no file is judged where none is written
fronts-none : (kids : Met → List Met) (k : ℕ) → fronts kids [] k ≡ record { passed = []; level = [] }
fronts-none kids zero = refl
fronts-none kids (suc k) = ap (descend kids) (fronts-none kids k)

judged-nothing : (desk : DeskSeen) (back : List Shown) → judged_files (case_as_stands desk (record { parcel = nothing; back = back })) ≡ []
unfolding judged_files
judged-nothing desk back = search (arith, fronts-none)

-- of a session whose fields are empty
emptied-may : (desk : DeskSeen) (s : SessionSeen) → Begins desk s → MayEdit desk (emptied s)
emptied-may desk s b = record {
  on = record { lib = b.lib; creds = b.creds; out = b.out; writes = λ f i. absurd i; reads = λ f i. absurd i; core = λ n i. absurd i };
  all = hands_in-nothing desk b.out;
  given = record { holds = λ h i. absurd i; numbers = λ n i. absurd i };
  order = nothing_is_in_order desk [];
  shows = λ nodes rows p. (nodes, record { possible = p; tree = p.tree; shows = (nothing_is_ready desk [] nodes rows p).1 });
  alone = λ f i. absurd i;
  beside = refl;
  chains = λ n kind e. absurd (let wrong : None ≡ Some kind = e in cc wrong);
  own = λ page i. absurd i;
  once = refl;
  placed = zero_least;
  made = search arith;
  entries = λ nodes rows x file l p i reads j out. absurd (subst (λ z. In x z) (judged-nothing desk []) i);
  held = λ h nodes rows i p. absurd i;
}

pub begins_to_edit : BeginsToEdit
begins_to_edit desk s b = (
  subst (λ x. MayEdit desk x) (sym b.empty) (emptied-may desk s b),
  subst (λ x. ComesToShown desk x.parcel x.reads x.calls) (sym b.empty) (nothing_is_ready desk []),
)
