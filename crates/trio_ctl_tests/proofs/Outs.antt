-- What a library has out that has only read leases.
use Rattle.std.proofs.Common.{◌≡◌, ℕ, [], ◌∷◌, ◌++◌, Option, Some, None, refl, sym, subst, ap, ◌∙◌}
use Rattle.std.specs.Prelude.{IfSome}
use Rattle.trio_lists.specs.Lists.{In}
use Rattle.trio_lease.specs.Shown.{Shown}
use Rattle.trio_nodes.specs.declared.grant.GrantKind.TheVariants.{Read as GrantRead}
use Rattle.trio_lease.specs.declared.lease.Lease.{Lease}
use Rattle.trio_lease.specs.declared.lease.Lease.TheVariants.{Read}
use Rattle.trio_desk.specs.Call.{DeskSeen, Grant, Lent, SeenAfter}
use Rattle.trio_desk.specs.Edits.{nothing}
use Rattle.trio_desk.specs.Out.{OutAlike, nothing_out, with_lease}
use Rattle.trio_desk.specs.Ready.{Ready}
use Rattle.trio_laws.proofs.session.Calls.{nothing_is_ready}

-- a lease to read that a grant gave is out
pub read_is_out : (before after : DeskSeen) (ino : ℕ) (lease : Lease) (o : Option Shown) → SeenAfter before (Grant ino GrantRead) (Lent lease) after → IfSome o (λ r. lease ≡ Read r) → IfSome o (λ r. OutAlike after.out (with_lease before.out (Read r)))
read_is_out before after ino lease None seen is = tt
read_is_out before after ino lease (Some r) seen is = subst (λ (l : Lease). OutAlike after.out (with_lease before.out l)) is seen.out

-- a lease that is taken where nothing is out may be handed in with a settle that has nothing else
pub reader_is_ready : (before desk : DeskSeen) (f : Shown) → OutAlike before.out nothing_out → OutAlike desk.out (with_lease before.out (Read f)) → Ready desk nothing (f ∷ []) []
reader_is_ready before desk f none out =
    let reads : desk.out.reads ≡ f ∷ [] = out.reads ∙ ap (λ l. l ++ f ∷ []) none.reads in
    record {
      all = record {
        given = record {
          writes = λ w i. absurd i;
          holds = λ h i. absurd i;
          pages = λ p i. absurd i;
          numbers = λ n i. absurd i;
          writes_once = refl;
          holds_once = refl;
          pages_once = refl;
          numbers_once = refl;
        };
        writes = λ w i. subst (λ l. In w l) (out.writes ∙ none.writes) i;
        reads = λ r. (λ i. subst (λ l. In r l) reads i, λ i. subst (λ l. In r l) (sym reads) i);
        reads_once = refl;
        holds = λ h i. subst (λ l. In h l) (out.holds ∙ none.holds) i;
        pages = λ n i. (none.pages n).0 ((out.pages n).0 i);
        numbers = λ n i. (none.numbers n).0 ((out.numbers n).0 i);
      };
      made = λ d i. absurd i;
      comes = nothing_is_ready desk (f ∷ []);
    }
