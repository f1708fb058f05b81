pub mod HeldLemmas
pub mod PlanLemmas
