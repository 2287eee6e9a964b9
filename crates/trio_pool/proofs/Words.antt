-- The words that the proofs of this crate share: of the standard library, of the crate below, and of this crate's own definitions.
pub use Rattle.std.proofs.Common.{IfSome, List, None, Option, Some, [], ap, append_assoc, arith, cond, eq-eqb, filter, inl, inr, length, length-append, lt_of_not-le, ne_eqb, refl, rules, set, slice_get, subst, suc, sym, vec_capacity, zero, ℕ, ⊎_elim, ◌++◌, ◌+◌, ◌-◌, ◌<◌, ◌==◌, ◌∙◌, ◌∷◌, ◌≡◌, ◌≢◌, ◌≤◌, ◌⊎◌}
pub use Rattle.std.proofs.lemmas.Grind.{common_steps}
pub use Rattle.std.proofs.lemmas.Option.{slice_get_read}
pub use Rattle.crossbeam_queue.proofs.Lists.{at_snoc}
pub use Rattle.crossbeam_queue.specs.Fifo.{Forks, Held, Learns, Pops, Pushes}
pub use Rattle.crossbeam_queue.specs.Passes.{IsPassOf, view}
pub use Rattle.trio_pool.specs.Jobs.{AreNamed, IsNamed, Take, case_count, case_job, cases_of, is_case, jobs_of, put_by, took_by, with_case}
pub use Rattle.trio_pool.specs.Mails.{AllFor, AreFor, IsForMails}
pub use Rattle.trio_pool.specs.Passes.{AllNew, IsNew, known_count, knows, number, took}
pub use Rattle.trio_pool.specs.Rule.{AccountAgrees, IsUnused, Kept, deals, places, sent_count, times, took_count, total}
pub use Rattle.trio_pool.specs.Views.{account, own_number, own_sent, own_took, view_of}
pub use Rattle.trio_pool.specs.declared.cell.Pool.{Pool}
pub use Rattle.trio_pool.specs.declared.job.Job.{Job}
pub use Rattle.trio_pool.specs.declared.job.Work.{Work}
pub use Rattle.trio_pool.specs.declared.job.Work.TheVariants.{Case, Stop}
pub use Rattle.trio_pool.specs.declared.pass.PoolPass.{PoolPass}
pub use Rattle.trio_pool.specs.declared.view.Account.{Account}
pub use Rattle.trio_pool.specs.declared.view.View.{View}
pub use Rattle.trio_pool.specs.inner.Closing.{Closing, HasEach, Knows}
pub use Rattle.trio_pool.specs.inner.Steps.{Agrees, Counted, Emptied, HasAll, Put, Stands, Took, both, either_next, with_sent, with_took}
