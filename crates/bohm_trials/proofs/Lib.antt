mod TestPlans
