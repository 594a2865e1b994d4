-- The elements at the front of a list that pass a test.
pub use Rattle.hc_token.proofs.Runs.{run_within, all_of_run}
