pub mod PastCritical
